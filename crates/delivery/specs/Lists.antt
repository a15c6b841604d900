-- Lists of which all members have a property, or exactly one has another; a member; the first members, in order.
use Rattle.std.specs.Prelude.{◌≡◌, List, [], ◌∷◌, ◌++◌}

pub data All {ℓ κ} {A : Type ℓ} (P : A → Type κ) : List A → Type (ℓ ⊔ κ) where
  none : All P []
  also : {x : A} {xs : List A} → P x → All P xs → All P (x ∷ xs)

pub data One {ℓ κ} {A : Type ℓ} (P Q : A → Type κ) : List A → Type (ℓ ⊔ κ) where
  this : {x : A} {xs : List A} → P x → All Q xs → One P Q (x ∷ xs)
  that : {x : A} {xs : List A} → Q x → One P Q xs → One P Q (x ∷ xs)

pub data Has {ℓ} {A : Type ℓ} (x : A) : List A → Type ℓ where
  here : {xs : List A} → Has x (x ∷ xs)
  there : {y : A} {xs : List A} → Has x xs → Has x (y ∷ xs)

pub data Pairs {ℓ κ} {A B : Type ℓ} (P : A → B → Type κ) : List A → List B → Type (ℓ ⊔ κ) where
  no_pair : Pairs P [] []
  a_pair : {x : A} {y : B} {xs : List A} {ys : List B} → P x y → Pairs P xs ys → Pairs P (x ∷ xs) (y ∷ ys)

abbrev pub Front : {A : Type 0} → List A → List A → Type 0
Front {A} xs ys = (rest : List A) × (ys ≡ xs ++ rest)
