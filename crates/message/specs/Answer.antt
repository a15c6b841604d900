-- Document 01, "Refusal numbers": a call gives its values, or refuses with a number.
use Rattle.std.specs.Prelude.{ℕ, ◌≡◌, Result, Ok, Err}

pub data Answer (A : Type 0) : Type 0 where
  gives : A → Answer A
  refused : ℕ → Answer A

-- What a call answers, each error by its number.
abbrev pub answered : {A E : Type 0} → (E → ℕ) → Result A E → Answer A
answered number (Ok a) = gives a
answered number (Err e) = refused (number e)

-- The same, where each value means another: the fields that a call found, and the message that they are of.
abbrev pub answered_as : {A B E : Type 0} → (A → B) → (E → ℕ) → Result A E → Answer B
answered_as means number (Ok a) = gives (means a)
answered_as means number (Err e) = refused (number e)

-- What a call leaves: with an answer the one, with a refusal what was there before.
abbrev pub kept : {A B : Type 0} → Answer A → B → B → B
kept (gives a) after before = after
kept (refused k) after before = before

-- Document 01, "Promises": answers that a promise allows for one input are equal, where it speaks of their numbers and values.
abbrev pub OneAnswer : {A B : Type 0} → (A → B) → Type 0
OneAnswer {A} numbers = (r q : A) → numbers r ≡ numbers q → r ≡ q
