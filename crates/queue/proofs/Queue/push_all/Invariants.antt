-- `queue::Queue::push_all` meets its contract. The loop's invariant: storing what is left of the data gives what storing all of it
-- gives at the start.
use Rattle.std.proofs.Common.{◌≡◌, ◌+◌, drop}
use Rattle.queue.specs.Queue.{stored}
use Rattle.queue.proofs.Queue.push_all.Given as goal

abbrev pub invariant-loop-i : goal.invariant-loop-i
invariant-loop-i l = stored l.bytes (l.back + l.i) (drop l.i l.data) ≡ stored l.initial.bytes l.back l.data
