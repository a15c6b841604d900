-- `reply::nibble` meets its contract: the reply's data is as long as the length field says, so a place in the response is found.
use Prim.Native.Nat.{ℕ, ◌/◌}
use mathlib.Core.Path.{◌∙◌, ap, ap₂, sym}
use mathlib.Core.List.{[], ◌∷◌}
use lib.ListN.{length}
use Rattle.field.specs.Field.{nibble_of}
use Rattle.message.specs.Format.{response_format, head_of, end_of}
use Rattle.place.specs.Place.{place_in, byte_at}
use Rattle.place.proofs.Places.{nibble-at-place}
use Rattle.queue.specs.Queue.{contents}
use Rattle.reply.specs.Reply.{reply_data, reply_status}
use Rattle.reply.proofs.Laws.{length_data}
use Rattle.reply.proofs.nibble.Goals as goal

pub returns : goal.returns
returns c =
    let a = c.args in
    let d = reply_data (contents a.input.now a.q) a.r in
    let size = c.length_of.ensures.0 ∙ sym (length_data a.input.now a.q a.r) in
    let where-is = c.place-p.ensures ∙ ap₂ (λ (n st : ℕ). place_in (head_of response_format [] n) n (end_of response_format (st ∷ [])) (a.i / 2)) size c.status_of.ensures in
    c.nibble.ensures
    ∙ ap (λ (b : ℕ). nibble_of b a.i) (c.byte_of.ensures ∙ ap (byte_at d) where-is)
    ∙ sym (nibble-at-place (head_of response_format [] (length d)) d (end_of response_format (reply_status a.r ∷ [])) a.i)
