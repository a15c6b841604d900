-- Only a unit that responds pulls a data line, and one whose response is defined is the only one to respond.
use mathlib.Core.Path.{◌≡◌, refl, sym, ◌∙◌, ap, subst}
use mathlib.Core.Bool.{false, true≢false}
use mathlib.Core.List.{List, ◌∷◌}
use Prim.Native.Nat.{ℕ}
use Rattle.bus.specs.declared.Station.{Station}
use Rattle.phase.specs.declared.Phase.{Phase}
use Rattle.phase.specs.declared.Phase.TheVariants.{Idle, Selecting, Receiving, Responding, SittingOut}
use Rattle.reply.specs.Reply.{is_silent}
use Rattle.unit.specs.Unit.{pulls_nibble}
use Rattle.delivery.specs.Calls.{in_frame}
use Rattle.delivery.specs.Demand2.{Places, no_nibble, its_own}
use Rattle.delivery.specs.Lists.{All}
use Rattle.delivery.specs.Log.{Capture, deeds_in}
use Rattle.delivery.specs.World.{World}
use Rattle.delivery.proofs.Captured.{Frames, at_rest, in_one}
use Rattle.delivery.proofs.Deeds.{Did}
use Rattle.delivery.proofs.Lists.{all_map}
use Rattle.delivery.proofs.Promised.{Moment}
use Rattle.delivery.proofs.Run.{frame_runs}
use Rattle.delivery.proofs.Stages.{Fresh, idles, selects, On, rests, submitted, ended, runs}
use Rattle.delivery.proofs.Story.{DidAt, stands_has}

-- In a frame.
did_places : (l : Capture) (ls : List Capture) (st : Station) → DidAt l l.lent st → Places (l ∷ ls) st
did_places l ls st did = by st.unit.phase refl did
  where
    by : (p : Phase) → st.unit.phase ≡ p → Did l.frame.command l.lent st.unit.own p (deeds_in st.unit.own l.marks) → Places (l ∷ ls) st
    by Idle e q = no_nibble (ap pulls_nibble e)
    by (Selecting ear half low) e q = no_nibble (ap pulls_nibble e)
    by (Receiving ear progress) e q = no_nibble (ap pulls_nibble e)
    by (Responding r j sender wait) e (s, speaks) = its_own l ls s.given refl (record { named = refl; meant = s.meant; inside = stands_has s; defined = sym (ap is_silent s.said) ∙ speaks })
    by (SittingOut last) e q = no_nibble (ap pulls_nibble e)

-- Between frames.
fresh_places : (ls : List Capture) (st : Station) → Fresh st → Places ls st
fresh_places ls st (idles e) = no_nibble (ap pulls_nibble e)
fresh_places ls st (selects e) = no_nibble (ap pulls_nibble e)

rest_places : {T : Moment} {v : World} (ls : List Capture) → On T v → in_frame v.controller.stage ≡ false → All (Places ls) v.units
rest_places ls (rests r eight codes d a) e = all_map (λ st p. fresh_places ls st p.0) a
rest_places ls (submitted f framed codes d a) e = all_map (λ st p. fresh_places ls st p.0) a
rest_places ls (ended eight codes d a) e = all_map (λ st p. no_nibble (ap pulls_nibble p.0.0)) a
rest_places ls (runs f found x codes) e = absurd (true≢false (sym (frame_runs x) ∙ e))

pub all_placed : {T : Moment} {v : World} {ls : List Capture} → On T v → Frames T v ls → All (Places ls) v.units
all_placed {ls = ls} on (at_rest e a) = rest_places ls on e
all_placed {v = v} on (in_one {l = l} {ls = ls} s a) = all_map (did_places l ls) (subst (λ (d : List ℕ). All (DidAt l d) v.units) s.lent s.did)
