-- What the controller's calls make of a unit's request: handed over to the application, and then settled or not.
use Rattle.std.specs.Prelude.{ℕ, ◌≡◌, Bool, true, false, cond, ◌&&◌, List, [], ◌∷◌, eqb}
use Rattle.controller.specs.Controller.{new_controller}
use Rattle.controller.specs.declared.Controller.{Controller}
use Rattle.frame.specs.declared.Frame.{Frame}
use Rattle.frame.specs.declared.Kind.TheVariants.{Submitted}
use Rattle.turn.specs.declared.Event.{Event}
use Rattle.turn.specs.declared.Event.TheVariants.{Nothing, Ended, Handed}
use Rattle.polling.specs.Moves.{Move, steps, submits, acknowledges, after, after_all, is_for, event_of}
use Rattle.delivery.specs.Calls.{running}

-- A call hands a request of the unit to the application.
abbrev pub is_handed : ℕ → Event → Bool
is_handed own Nothing = false
is_handed own (Ended status count) = false
is_handed own (Handed code) = eqb code own

-- A call tells of a submitted command that it ended with 00.
abbrev pub is_done : Event → Bool
is_done Nothing = false
is_done (Ended status count) = eqb status 0x00
is_done (Handed code) = false

-- The frame that runs, if one does, is a disable or close of the unit.
abbrev pub any_for : ℕ → List Frame → Bool
any_for own [] = false
any_for own (f ∷ fs) = is_for own f

-- What settles a request that was handed over: the application acknowledges the unit's code; or a disable or close of the unit ends with 00,
-- which removes it.
abbrev pub settles : ℕ → Controller → Move → Bool
settles own c (steps seen busy lent response) = is_done (event_of c (steps seen busy lent response)) && any_for own (running c.stage)
settles own c (submits k n room) = false
settles own c (acknowledges code) = eqb code own

-- Whether a request of the unit that was handed over is unacknowledged behind these calls, where `was` says so of before: handed over, and
-- since then not settled.
abbrev pub pending : ℕ → Bool → Controller → Move → Bool
pending own was c m = cond (is_handed own (event_of c m)) true (cond (settles own c m) false was)

abbrev pub pending_from : ℕ → Bool → Controller → List Move → Bool
pending_from own was c [] = was
pending_from own was c (m ∷ ms) = pending_from own (pending own was c m) (after c m) ms

-- The controller that was made with a time-out, after a row of calls.
abbrev pub since : ℕ → List Move → Controller
since timeout ms = after_all (new_controller timeout) ms

abbrev pub is_pending : ℕ → ℕ → List Move → Bool
is_pending own timeout ms = pending_from own false (new_controller timeout) ms

-- An enabling (08) of the unit.
abbrev pub IsEnabling : ℕ → Frame → Type 0
IsEnabling own f = (f.kind ≡ Submitted) × ((f.command.command ≡ 0x08) × (f.command.device ≡ own))
