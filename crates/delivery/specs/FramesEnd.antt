-- Frames end, however busy hosts are now and then: the rounds that are left are never more than before, and fewer behind each round in
-- which no party that holds HSK has a busy host. So only a host that is busy for ever while its party holds HSK keeps a frame from its end.
-- Here that is counted over any run.
use Rattle.std.specs.Prelude.{ℕ, suc, ◌+◌, ◌*◌, ◌<◌, ◌≤◌, ◌≡◌, true, cond, List, [], ◌∷◌}
use Rattle.frame.specs.Frame.{last_nibble}
use Rattle.frame.specs.declared.Frame.{Frame}
use Rattle.frame.specs.declared.Stage.TheVariants.{Resting}
use Rattle.delivery.specs.Calls.{Call, called_all, in_frame, running}
use Rattle.delivery.specs.Run.{QuietStart, Run, start, a_round, a_call}
use Rattle.delivery.specs.Ends.{left, listening, is_free, quietly}
use Rattle.delivery.specs.World.{World, Busy, round}

-- Four rounds for each nibble of the command, four for each of the longest response that fits the buffer length field, the time-out, and
-- three.
abbrev pub longest : Frame → ℕ → ℕ
longest f timeout = 4 * last_nibble f + 6 + listening f timeout

-- A run on which the frame goes on from the first world to the last. No call ends a frame; and it is one and the same, for behind the end
-- of a frame there are rounds of rest.
abbrev pub Staying : {v u : World} → Run v u → Type 0
Staying {v = v} start = in_frame v.controller.stage ≡ true
Staying (a_round {v = x} more busy) = Staying more × (in_frame (round x busy).controller.stage ≡ true)
Staying (a_call more call) = Staying more

-- How many rounds of a run are free.
abbrev pub free_rounds : {v u : World} → Run v u → ℕ
free_rounds start = 0
free_rounds (a_round {v = x} more busy) = free_rounds more + cond (is_free x busy) 1 0
free_rounds (a_call more call) = free_rounds more

-- From any world of a frame on, whatever is called and whoever is busy: as long as the frame goes on, each free round has taken at least
-- one away of those that were left, and these were fewer than `longest`. So fewer than `longest` rounds of a frame are free; how many are
-- not is up to the hosts alone. If they are at most b for each nibble, that is a bound for all rounds of it.
abbrev pub FramesEnd : Type 0
FramesEnd =
    (w v : World) (f : Frame)
    → QuietStart w
    → Run w v
    → running v.controller.stage ≡ f ∷ []
    → (left v < longest f v.controller.timeout) × ((u : World) (more : Run v u) → Staying more → left u + free_rounds more ≤ left v)

-- The same as what can be waited for. A frame ends within n free rounds: it has ended; or, whatever is called and however many rounds that
-- are not free have passed while it goes on, the next free round leaves it one that ends within one fewer.
pub data Ends : ℕ → World → Type 0 where
  has_ended : {n : ℕ} {w : World} → w.controller.stage ≡ Resting true → Ends n w
  next_free :
      {n : ℕ} {w : World} → ((u : World) (more : Run w u) → Staying more → free_rounds more ≡ 0 → (busy : Busy) → is_free u busy ≡ true → Ends n (round u busy)) → Ends (suc n) w

abbrev pub FramesEndInTime : Type 0
FramesEndInTime = (w v : World) (f : Frame) → QuietStart w → Run w v → running v.controller.stage ≡ f ∷ [] → Ends (longest f v.controller.timeout) v

-- And with no host busy, which is free wherever the parties are: at most `longest` such rounds in a row, whatever is called before each.
pub data EndsQuietly : ℕ → World → Type 0 where
  quiet_ended : {n : ℕ} {w : World} → w.controller.stage ≡ Resting true → EndsQuietly n w
  next_quiet : {n : ℕ} {w : World} → ((calls : List Call) → EndsQuietly n (round (called_all w calls) quietly)) → EndsQuietly (suc n) w

abbrev pub QuietlyFree : Type 0
QuietlyFree = (w : World) → is_free w quietly ≡ true

abbrev pub FramesEndQuietly : Type 0
FramesEndQuietly = (w v : World) (f : Frame) → QuietStart w → Run w v → running v.controller.stage ≡ f ∷ [] → EndsQuietly (longest f v.controller.timeout) v
