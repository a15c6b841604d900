-- What the bus needs of a kind of unit. The theorems of demands 2 and 3 use these laws and unfold no check: a new kind is a new case of
-- `Lent` and `Fit` here, with the proof that it is lawful. `proofs/Lawful.antt` has one for every kind.
use Rattle.std.specs.Prelude.{ℕ, ◌≡◌, Bool, true, false, cond, ◌&&◌, ◌||◌, List, [], eqb, length}
use Rattle.field.specs.Field.{Below}
use Rattle.frame.specs.Frame.{poll_of}
use Rattle.header.specs.declared.Command.{Command}
use Rattle.kind.specs.declared.Kind.{Kind}
use Rattle.kind.specs.declared.Kind.TheVariants.{Serial as SerialUnit, Video as VideoUnit}
use Rattle.reply.specs.Reply.{is_silent, reply_status}
use Rattle.screen.specs.Screen.{On}
use Rattle.serial.specs.Serial.{new_serial}
use Rattle.serial.specs.declared.Reply.{Reply}
use Rattle.whole.specs.Back.{Answered}
use Rattle.inside.specs.Calls.{HostCall, called, called_all}
use Rattle.inside.specs.Inside.{Inside, is_served, has_request, reply_of, taken, responded, data_in, clears}

-- A unit with queues is lent 256 bytes for its input. From a quiet start on two things hold inside it: it has that memory, and it holds a
-- request only while service is enabled.
abbrev pub QueueLent : Inside → Type 0
QueueLent x = (length x.input ≡ 256) × Below 256 x.input

abbrev pub QueueFit : Inside → Type 0
QueueFit x = QueueLent x × (has_request x ≡ true → is_served x ≡ true)

-- A video unit never has service or a request, and its cursor is on an unprotected line.
abbrev pub ScreenFit : Inside → Type 0
ScreenFit x = On x.state.screen × ((is_served x ≡ false) × (has_request x ≡ false))

-- By kind: the memory that a unit is lent beside what a step asks for, and what holds inside it.
abbrev pub Lent : Kind → Inside → Type 0
Lent SerialUnit = QueueLent
Lent VideoUnit = λ (x : Inside). Unit

abbrev pub Fit : Kind → Inside → Type 0
Fit SerialUnit = QueueFit
Fit VideoUnit = ScreenFit

-- The commands that end a request.
abbrev pub is_ending : ℕ → Bool
is_ending code = eqb code 0x01 || (eqb code 0x09 || eqb code 0xFF)

-- The laws of a kind. `lent` says which memory its units are lent, `fit` what holds inside them.
pub record LawfulBy (kind : Kind) (lent fit : Inside → Type 0) : Type 0 where
  -- A new unit fits, and stays fit whatever comes.
  pub fit_new : (x : Inside) → x.state ≡ new_serial → lent x → fit x
  pub fit_taken : (x : Inside) (c : Command) (n : ℕ) (d : List ℕ) → fit x → fit (taken kind x c n d)
  pub fit_ended : (x : Inside) (r : Reply) → fit x → fit (responded x r)
  pub fit_called : (x : Inside) (call : HostCall) → fit x → fit (called kind call x)
  -- The response is one, and its data fits the buffer length field.
  pub answers : (x : Inside) (c : Command) (n : ℕ) (d : List ℕ) → fit x → Answered (data_in x (reply_of kind x c n d)) (reply_status (reply_of kind x c n d)) c.buffer_length
  -- Its data, and so its length, stays the same under the effects of its own command and under calls in mid-answer.
  pub stands : (x : Inside) (c : Command) (n : ℕ) (d : List ℕ) (calls : List HostCall) → fit x → data_in (called_all kind calls (taken kind x c n d)) (reply_of kind x c n d) ≡ data_in x (reply_of kind x c n d)
  -- At code 0 there is silence, and nothing but a reset acts.
  pub zero_silent : (x : Inside) (c : Command) (n : ℕ) (d : List ℕ) → c.device ≡ 0 → is_silent (reply_of kind x c n d) ≡ true
  pub zero_keeps : (x : Inside) (c : Command) (n : ℕ) (d : List ℕ) → c.device ≡ 0 → eqb c.command 0xFF ≡ false → taken kind x c n d ≡ x
  -- A poll is answered 00 if service is enabled and a request is held, else 0A; nothing else has an answer that clears a request.
  pub polled : (x : Inside) (own : ℕ) → fit x → (own ≡ 0 → ⊥) → reply_status (reply_of kind x (poll_of own).command 0 []) ≡ cond (is_served x && has_request x) 0x00 0x0A
  pub speaks : (x : Inside) (own : ℕ) → fit x → (own ≡ 0 → ⊥) → is_silent (reply_of kind x (poll_of own).command 0 []) ≡ false
  pub clears_poll : (x : Inside) (c : Command) (n : ℕ) (d : List ℕ) → clears (reply_of kind x c n d) ≡ true → eqb c.command 0x0A ≡ true
  -- A request is held only while service is enabled, and no other command ends it.
  pub served : (x : Inside) → fit x → has_request x ≡ true → is_served x ≡ true
  pub request_taken : (x : Inside) (c : Command) (n : ℕ) (d : List ℕ) → is_ending c.command ≡ false → has_request (taken kind x c n d) ≡ has_request x

abbrev pub Lawful : Kind → Type 0
Lawful kind = LawfulBy kind (Lent kind) (Fit kind)
