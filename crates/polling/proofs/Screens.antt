-- A video unit answers no enabling with 00, so that its code never joins.
use mathlib.Core.Path.{◌≡◌, sym, subst}
use lib.ListN.{length}
use Rattle.inside.proofs.VideoUnit.{enabling_refused}
use Rattle.inside.specs.Inside.{reply_of}
use Rattle.kind.specs.declared.Kind.{Kind}
use Rattle.reply.specs.Reply.{reply_status}
use Rattle.whole.specs.Whole.{stored_of}
use Rattle.polling.specs.Screens.{NeverInRing}
use Rattle.polling.proofs.Joined.{refusers}

pub never_in_ring : NeverInRing
never_in_ring w v q r own k =
    refusers w v q r own (λ x c d e. subst (λ (kind : Kind). reply_status (reply_of kind x c (length d) (stored_of d)) ≡ 0x00 → ⊥) (sym k) (enabling_refused x c (length d) (stored_of d) e))
