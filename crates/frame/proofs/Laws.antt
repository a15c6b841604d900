-- The two sorts of nibbles, a nibble that is taken, and a frame that goes on.
use Prim.Native.Nat.{ℕ, ◌<◌}
use mathlib.Core.Path.{◌≡◌, refl, sym, ap}
use mathlib.Core.Bool.{Bool, true, false, cond, ◌||◌}
use mathlib.Core.List.{List, []}
use borrow.Author.Tests.{leb-false}
use lib.Dec.{leb}
use Rattle.answer.specs.Answer.{taken_with}
use Rattle.answer.specs.declared.Response.{Response}
use Rattle.command.specs.Command.{message_of}
use Rattle.line.specs.Line.{hear_of, taken_of}
use Rattle.line.specs.declared.Lines.{Lines}
use Rattle.line.specs.declared.Listener.{Listener}
use Rattle.message.specs.Format.{command_format, bytes_of}
use Rattle.message.specs.Nibbles.{nibble_in}
use Rattle.frame.specs.Frame.{is_submitted, nibble_of, stays, ends_by, listening_step}
use Rattle.frame.specs.declared.Frame.{Frame}
use Rattle.frame.specs.declared.Stage.TheVariants.{Listening}

pub nibble_with : (f : Frame) (d : List ℕ) (i : ℕ) (b : Bool) → is_submitted f.kind ≡ b
    → nibble_in (bytes_of command_format (message_of f.command (cond b d []))) i ≡ nibble_of f d i
nibble_with f d i b p = ap (λ (b : Bool). nibble_in (bytes_of command_format (message_of f.command (cond b d []))) i) (sym p)

pub nibble_heard : (f : Frame) (ear : Listener) (response : Response) (quiet timeout : ℕ) (seen : Lines) (busy : Bool) → taken_of ear seen.hsk ≡ true
    → stays (Listening f (hear_of ear seen.hsk busy) (taken_with response seen.nibble f.command.buffer_length) 0)
    ≡ listening_step f ear response quiet timeout seen busy
nibble_heard f ear response quiet timeout seen busy p = rw p

pub not_yet : (done : Bool) (timeout quiet : ℕ) → ends_by done timeout quiet ≡ false → quiet < timeout
not_yet done timeout quiet h = leb-false timeout quiet (neither (leb timeout quiet) h)
  where
    neither : (t : Bool) → (t || done) ≡ false → t ≡ false
    neither false h = refl
    neither true h = cc
