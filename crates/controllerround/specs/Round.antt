-- A round of a controller that stands in words, and what the application is told of it, in words too.
use Rattle.std.specs.Prelude.{ℕ, ◌%◌, Bool, List, [], ◌∷◌}
use Rattle.controller.specs.Controller.{controller_step, controller_moved, event_after, event_in}
use Rattle.controllerwords.specs.Controller.{loaded_frame, loaded_response, loaded, saved_in}
use Rattle.controllerwords.specs.Layout.{TIMEOUT, EAR, QUIET}
use Rattle.frame.specs.Frame.{ends, listening_step, listening_buffer}
use Rattle.frame.specs.declared.Moved.{Moved}
use Rattle.line.specs.declared.Lines.{Lines}
use Rattle.turn.specs.declared.Event.{Event}
use Rattle.turn.specs.declared.Event.TheVariants.{Nothing, Ended, Handed}
use Rattle.words.specs.Words.{at, listener_of}

-- The event of a step in three words: nothing 0; 1, the status that ended the command and the number of its data bytes; 2 and the code
-- of the request that is handed over. Words that an event does not use are 0.
abbrev pub event_words : Event → List ℕ
event_words Nothing = 0 ∷ 0 ∷ 0 ∷ []
event_words (Ended status count) = 1 ∷ status ∷ count ∷ []
event_words (Handed code) = 2 ∷ code ∷ 0 ∷ []

-- The words after a round, and the words of its event.
abbrev pub round_in : List ℕ → Lines → Bool → List ℕ → List ℕ
round_in ws seen busy d = saved_in ws (controller_step (loaded ws) seen busy d)

abbrev pub round_event : List ℕ → Lines → Bool → List ℕ → List ℕ
round_event ws seen busy d = event_words (event_in (loaded ws) seen busy d)

-- The same after a frame moved: its stage, and the ring where the frame is over.
abbrev pub moved_in : List ℕ → Moved → List ℕ
moved_in ws m = saved_in ws (controller_moved (loaded ws) m)

abbrev pub moved_event : Moved → List ℕ
moved_event m = event_words (event_after m.end)

-- Listening, with all that the words say; and whether the frame ends.
abbrev pub listened : List ℕ → Lines → Bool → Moved
listened ws seen busy =
    listening_step (loaded_frame ws) (listener_of (at ws EAR)) (loaded_response ws) (at ws QUIET % 65536) (at ws TIMEOUT % 65536) seen busy

abbrev pub listened_buffer : List ℕ → Lines → List ℕ → List ℕ
listened_buffer ws seen buffer = listening_buffer (loaded_frame ws) (listener_of (at ws EAR)) (loaded_response ws) seen buffer

abbrev pub ends_in : List ℕ → ℕ → ℕ → Bool
ends_in ws ear quiet = ends (listener_of ear) (loaded_response ws) (at ws TIMEOUT % 65536) quiet
