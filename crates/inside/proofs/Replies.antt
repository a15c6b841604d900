-- What holds of a reply, whatever unit gives it.
use mathlib.Core.Path.{◌≡◌, refl}
use mathlib.Core.Bool.{true, false, true≢false, false≢true}
use Rattle.reply.specs.Reply.{is_silent, reply_status}
use Rattle.serial.specs.declared.Reply.{Reply}
use Rattle.serial.specs.declared.Reply.TheVariants.{Silent, Status, Opened, Bytes, Address, Polled}
use Rattle.inside.specs.Inside.{Inside, has_request, responded, clears}

pub silent_status : (r : Reply) → is_silent r ≡ true → reply_status r ≡ 0xFF
silent_status Silent e = refl
silent_status (Status number) e = absurd (false≢true e)
silent_status (Opened accepted) e = absurd (false≢true e)
silent_status (Bytes n) e = absurd (false≢true e)
silent_status (Address n row column) e = absurd (false≢true e)
silent_status Polled e = absurd (false≢true e)

-- One that clears a request is a response, and says 00.
pub clears_speaks : (r : Reply) → clears r ≡ true → is_silent r ≡ false
clears_speaks Silent e = absurd (false≢true e)
clears_speaks (Status number) e = refl
clears_speaks (Opened accepted) e = refl
clears_speaks (Bytes n) e = refl
clears_speaks (Address n row column) e = refl
clears_speaks Polled e = refl

pub clears-says : (r : Reply) → clears r ≡ true → reply_status r ≡ 0x00
clears-says Silent e = absurd (false≢true e)
clears-says (Status number) e = absurd (false≢true e)
clears-says (Opened accepted) e = absurd (false≢true e)
clears-says (Bytes n) e = absurd (false≢true e)
clears-says (Address n row column) e = absurd (false≢true e)
clears-says Polled e = refl

-- The end of any other leaves a request.
pub request_ended : (x : Inside) (r : Reply) → clears r ≡ false → has_request (responded x r) ≡ has_request x
request_ended x Silent e = refl
request_ended x (Status number) e = refl
request_ended x (Opened accepted) e = refl
request_ended x (Bytes n) e = refl
request_ended x (Address n row column) e = refl
request_ended x Polled e = absurd (true≢false e)
