-- A controller that listens, in words: a nibble that it takes.
use Rattle.std.specs.Prelude.{ℕ, ◌%◌, List}
use Rattle.answer.specs.Answer.{taken_with, buffer_with}
use Rattle.answer.specs.declared.Response.{Response}
use Rattle.controllerwords.specs.Controller.{kind_of, loaded_response, response_in, listening}
use Rattle.controllerwords.specs.Layout.{KIND, BUFFER_LENGTH}
use Rattle.frame.specs.Frame.{is_submitted}
use Rattle.words.specs.Words.{at}

-- The response in the words, with one nibble more.
abbrev pub with_nibble : List ℕ → ℕ → Response
with_nibble ws nibble = taken_with (loaded_response ws) nibble (at ws BUFFER_LENGTH % 65536)

abbrev pub nibble_in : List ℕ → ℕ → List ℕ
nibble_in ws nibble = response_in ws (with_nibble ws nibble)

-- The words after a round in which it takes the nibble, those of the stage and of its frame as they stand; and the lent buffer.
abbrev pub taken_in : List ℕ → ℕ → List ℕ
taken_in ws nibble = response_in (listening ws 1 0) (with_nibble ws nibble)

abbrev pub taken_buffer : List ℕ → ℕ → List ℕ → List ℕ
taken_buffer ws nibble buffer = buffer_with (loaded_response ws) nibble (is_submitted (kind_of (at ws KIND))) buffer
