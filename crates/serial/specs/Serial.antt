-- Document 01, "The serial peripheral" (000, 5.4 and its RS-232 chapter): the state of a unit, and what changes it. No lines in it.
use Rattle.std.specs.Prelude.{ℕ, Bool, true, false, List}
use Rattle.queue.specs.Queue.{empty_queue, queue_with, bytes_with, queue_without}
use Rattle.queue.specs.declared.Queue.{Queue}
use Rattle.screen.specs.Screen.{new_screen, asking}
use Rattle.screen.specs.Text.{with_text, cells_after, cleared}
use Rattle.screen.specs.declared.Screen.{Screen}
use Rattle.serial.specs.declared.Opening.{Opening}
use Rattle.serial.specs.declared.Opening.TheVariants.{Closed, OpenFor}
use Rattle.serial.specs.declared.Serial.{Serial}
use Rattle.serial.specs.declared.Reply.{Reply}
use Rattle.serial.specs.declared.Reply.TheVariants.{Silent, Status, Opened, Bytes, Address, Polled}
use Rattle.serial.specs.declared.Effect.{Effect}
use Rattle.serial.specs.declared.Effect.TheVariants.{Keeps, Opens, Closes, Resets, Enables, Disables, Stores, OpensScreen, ResetsScreen, Shows}

-- A new unit is closed, not enabled, its queues empty, its screen as open and reset leave one.
abbrev pub new_serial : Serial
new_serial = record { opening = Closed; enabled = false; requesting = false; input = empty_queue; output = empty_queue; screen = new_screen }

-- A state with one thing changed.
abbrev pub with_opening : Serial → Opening → Serial
with_opening s opening = record { opening = opening; enabled = s.enabled; requesting = s.requesting; input = s.input; output = s.output; screen = s.screen }

abbrev pub with_service : Serial → Bool → Serial
with_service s enabled = record { opening = s.opening; enabled = enabled; requesting = s.requesting; input = s.input; output = s.output; screen = s.screen }

abbrev pub with_request : Serial → Bool → Serial
with_request s requesting = record { opening = s.opening; enabled = s.enabled; requesting = requesting; input = s.input; output = s.output; screen = s.screen }

abbrev pub with_input : Serial → Queue → Serial
with_input s input = record { opening = s.opening; enabled = s.enabled; requesting = s.requesting; input = input; output = s.output; screen = s.screen }

abbrev pub with_output : Serial → Queue → Serial
with_output s output = record { opening = s.opening; enabled = s.enabled; requesting = s.requesting; input = s.input; output = output; screen = s.screen }

abbrev pub with_screen : Serial → Screen → Serial
with_screen s screen = record { opening = s.opening; enabled = s.enabled; requesting = s.requesting; input = s.input; output = s.output; screen = screen }

-- Service and request end together.
abbrev pub unserved : Serial → Serial
unserved s = with_request (with_service s false) false

-- The effects, when the last command nibble is taken. Close closes, ends service and request, empties the input queue; output stays. A screen is
-- put back as it is opened and as a reset closes it, and shows the text that is written to it.
abbrev pub applied : Serial → Effect → List ℕ → Serial
applied s Keeps d = s
applied s (Opens m accepted) d = with_opening s (OpenFor m accepted)
applied s Closes d = with_input (unserved (with_opening s Closed)) empty_queue
applied s Resets d = new_serial
applied s Enables d = with_service s true
applied s Disables d = unserved s
applied s Stores d = with_output s (queue_with s.output d)
applied s (OpensScreen m accepted) d = with_screen (with_opening s (OpenFor m accepted)) new_screen
applied s ResetsScreen d = new_serial
applied s Shows d = with_screen s (with_text s.screen d)

-- The memory for what is written to it, afterwards.
abbrev pub output_after : Serial → Effect → List ℕ → List ℕ → List ℕ
output_after s Keeps d bytes = bytes
output_after s (Opens m accepted) d bytes = bytes
output_after s Closes d bytes = bytes
output_after s Resets d bytes = bytes
output_after s Enables d bytes = bytes
output_after s Disables d bytes = bytes
output_after s Stores d bytes = bytes_with bytes s.output d
output_after s (OpensScreen m accepted) d bytes = cleared bytes
output_after s ResetsScreen d bytes = cleared bytes
output_after s Shows d bytes = cells_after s.screen d bytes

-- Three things wait until the last response nibble is done: a read's bytes leave the queue, the cursor's address is asked for no longer, and a
-- poll answered 00 clears the request.
abbrev pub finished : Serial → Reply → Serial
finished s Silent = s
finished s (Status number) = s
finished s (Opened accepted) = s
finished s (Bytes n) = with_input s (queue_without n s.input)
finished s (Address n row column) = with_screen s (asking s.screen false)
finished s Polled = with_request s false
