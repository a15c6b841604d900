-- Lists of units, of which all, or exactly one, have a property.
use Prim.Native.Nat.{ℕ, ◌/◌}
use mathlib.Core.Bool.{Bool}
use mathlib.Core.List.{List, [], ◌∷◌, ◌++◌}
use Rattle.bus.specs.Bus.{station_step, units_after, is_odd}
use Rattle.bus.specs.declared.Station.{Station}
use Rattle.line.specs.declared.Lines.{Lines}
use Rattle.delivery.specs.Lists.{All, none, also, One, this, that, Has, here, there}
use Rattle.delivery.proofs.Moves.{Becomes, in_front, behind}

pub all_map {ℓ κ μ} : {A : Type ℓ} {P : A → Type κ} {Q : A → Type μ} → ((x : A) → P x → Q x) → {xs : List A} → All P xs → All Q xs
all_map f none = none
all_map f (also {x = x} p a) = also (f x p) (all_map f a)

pub all_zip {ℓ κ μ} : {A : Type ℓ} {P : A → Type κ} {Q : A → Type μ} {xs : List A} → All P xs → All Q xs → All (λ (x : A). P x × Q x) xs
all_zip none none = none
all_zip (also p a) (also q b) = also (p, q) (all_zip a b)

pub one_all {ℓ κ μ} : {A : Type ℓ} {P Q : A → Type κ} {S : A → Type μ} → ((x : A) → P x → S x) → ((x : A) → Q x → S x) → {xs : List A} → One P Q xs → All S xs
one_all f g (this {x = x} p a) = also (f x p) (all_map g a)
one_all f g (that {x = x} q o) = also (g x q) (one_all f g o)

pub one_map {ℓ κ} : {A : Type ℓ} {P Q P' : A → Type κ} → ((x : A) → P x → P' x) → {xs : List A} → One P Q xs → One P' Q xs
one_map f (this {x = x} p a) = this (f x p) a
one_map f (that q o) = that q (one_map f o)

-- Members.
pub one_has {ℓ} : {A : Type ℓ} {P Q : A → Type ℓ} {xs : List A} → One P Q xs → One (λ (x : A). P x × Has x xs) Q xs
one_has (this p a) = this (p, here) a
one_has {A = A} {P = P} {Q = Q} (that q o) = that q (deeper (one_has o))
  where
    deeper : {y : A} {zs ys : List A} → One (λ (x : A). P x × Has x zs) Q ys → One (λ (x : A). P x × Has x (y ∷ zs)) Q ys
    deeper (this p a) = this (p.0, there p.1) a
    deeper (that q o) = that q (deeper o)

pub has_all {ℓ κ} : {A : Type ℓ} {P : A → Type κ} {xs : List A} {x : A} → All P xs → Has x xs → P x
has_all none h = elim h [ ]
has_all (also p a) here = p
has_all (also p a) (there h) = has_all a h

-- A round of every unit.
pub all_step : {P Q : Station → Type 0} (seen : Lines) → ((st : Station) (busy : Bool) → P st → Q (station_step st seen busy)) → (hosts : ℕ) {ss : List Station} → All P ss → All Q (units_after seen hosts ss)
all_step seen f hosts none = none
all_step seen f hosts (also {x = st} p a) = also (f st (is_odd hosts) p) (all_step seen f (hosts / 2) a)

pub all_becomes : {P Q : Station → Type 0} (seen : Lines) (hosts : ℕ) {ss : List Station}
    → ((st : Station) (busy : Bool) → Becomes seen hosts ss st (station_step st seen busy) → P st → Q (station_step st seen busy)) → All P ss → All Q (units_after seen hosts ss)
all_becomes seen hosts f none = none
all_becomes seen hosts f (also {x = st} p a) = also (f st (is_odd hosts) in_front p) (all_becomes seen (hosts / 2) (λ x busy m q. f x busy (behind m) q) a)

pub one_step : {P Q P' Q' : Station → Type 0} (seen : Lines) → ((st : Station) (busy : Bool) → P st → P' (station_step st seen busy))
    → ((st : Station) (busy : Bool) → Q st → Q' (station_step st seen busy)) → (hosts : ℕ) {ss : List Station} → One P Q ss → One P' Q' (units_after seen hosts ss)
one_step seen f g hosts (this {x = st} p a) = this (f st (is_odd hosts) p) (all_step seen g (hosts / 2) a)
one_step seen f g hosts (that {x = st} q o) = that (g st (is_odd hosts) q) (one_step seen f g (hosts / 2) o)

pub has_left {ℓ} : {A : Type ℓ} {x : A} {xs : List A} (ys : List A) → Has x xs → Has x (xs ++ ys)
has_left ys here = here
has_left ys (there h) = there (has_left ys h)

pub has_right {ℓ} : {A : Type ℓ} {x : A} (xs : List A) {ys : List A} → Has x ys → Has x (xs ++ ys)
has_right [] h = h
has_right (y ∷ xs) h = there (has_right xs h)
