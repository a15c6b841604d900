-- On demand 2's bus the controller's own calls, and what they tell the application.
use Rattle.std.specs.Prelude.{List, ◌∷◌, length}
use Rattle.delivery.specs.Calls.{Call, host, submits as submitsTo, acknowledges as acknowledgesTo, lends, lends_unit}
use Rattle.delivery.specs.Run.{Run, start, a_round, a_call}
use Rattle.delivery.specs.World.{World, Busy, levels}
use Rattle.polling.specs.Moves.{Move, steps, submits, acknowledges}

abbrev pub move_of : World → Busy → Move
move_of v busy = steps (levels v) busy.here v.lent v.response

abbrev pub call_of : Call → List Move → List Move
call_of (host i call) ms = ms
call_of (submitsTo k d response r b) ms = submits k (length d) (length response) ∷ ms
call_of (acknowledgesTo code h) ms = acknowledges code ∷ ms
call_of (lends d response) ms = ms
call_of (lends_unit i buffer) ms = ms

-- Those of a run, and then more.
abbrev pub moves_of : {w v : World} → Run w v → List Move → List Move
moves_of start ms = ms
moves_of (a_round {v = v} r busy) ms = moves_of r (move_of v busy ∷ ms)
moves_of (a_call r call) ms = moves_of r (call_of call ms)
