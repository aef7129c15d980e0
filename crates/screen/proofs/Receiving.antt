-- A text that is taken or refused: what each way through the code gives back.
-- Assumes nothing.
use Prim.Native.Nat.{ℕ, ◌+◌, ◌<◌, ◌≤◌}
use mathlib.Core.Bool.{Bool, and-false, cond, false, not, true, ◌&&◌}
use mathlib.Core.List.{List}
use mathlib.Core.Path.{◌≡◌, ap, refl, sym, subst, ◌∙◌}
use native.Mathlib.Omega.{arith}
use borrow.Author.Tests.{eq-eqb, le-leb, lt-leb, ne_eqb}
use lib.Dec.{eqb}
use lib.ListN.{drop, length}
use Rattle.std.specs.Bool.{then_some}
use Rattle.std.specs.Prelude.{Err, None, Ok, Option, Result, Some}
use Rattle.std.specs.Option.{ok_or}
use Rattle.std.specs.Result.{IsErrAnd}
use Rattle.rules.specs.Answered.{received_in}
use Rattle.rules.specs.declared.Refusal.{Refusal}
use Rattle.json_reader.proofs.Read.{none_read, some_read}
use Rattle.rules.specs.Screen.{aspect_in, is_taken, is_there, members_of, message_in, no_message, ours, reading_answer}
use Rattle.rules.specs.Screen.{received, station_in, tracks_in}
use Rattle.rules.specs.Words.{◌if◌then◌}
use Rattle.rules.specs.declared.Message.{Message}
use Rattle.rules.specs.declared.Received.{Received}
use Rattle.rules_json.specs.Reader.{blanks, end_of_text, is_text, past, text_said, text_size, value_said, value_size}
use Rattle.screen.specs.Places.{Outermost, Places, message_given}
use Rattle.screen.specs.declared.members.Found.{Found}

-- what is received where a text is taken
abbrev pub given_by : Option Message → Received
given_by None = record { answer = 16; message = no_message }
given_by (Some message) = record { answer = 0; message = message }

module _ (text : List ℕ) where
  abbrev all : Bool
  all = is_there (station_in (ours text)) && is_there (aspect_in (ours text)) && is_there (tracks_in (ours text))

  abbrev refused : Received
  refused = record { answer = 15; message = no_message }

  answer_by : {t : Bool} → is_taken text ≡ t → {u : Bool} → all ≡ u
      → reading_answer text ≡ cond (not t) 15 (cond (not u) 16 0)
  unfolding reading_answer ◌if◌then◌
  answer_by e f = λ i. cond (not (e i)) 15 (cond (not (f i)) 16 0)

  not_taken : is_taken text ≡ false → refused ≡ received text
  unfolding received
  not_taken e =
      sym (ap (λ n. record { answer = n; message = cond (eqb n 0) (message_in (ours text)) no_message })
      (answer_by e refl))

  taken : is_taken text ≡ true → given_by (message_given (ours text)) ≡ received text
  unfolding received message_given
  taken e = by_all all refl
    where
      by_all : (u : Bool) → all ≡ u → given_by (then_some u (message_in (ours text))) ≡ received text
      by_all true f =
          sym (ap (λ n. record { answer = n; message = cond (eqb n 0) (message_in (ours text)) no_message })
          (answer_by e f))
      by_all false f =
          sym (ap (λ n. record { answer = n; message = cond (eqb n 0) (message_in (ours text)) no_message })
          (answer_by e f))

  pub too_long : 4096 < length text → refused ≡ received text
  unfolding is_taken
  too_long h = not_taken (ap (λ t. t && is_text 8 text) (lt-leb (length text) 4096 h))

  module _ (short : length text ≤ 4096) where
    by_text : {t : Bool} → is_text 8 text ≡ t → is_taken text ≡ t
    unfolding is_taken
    by_text e = ap (λ t. t && is_text 8 text) (le-leb (length text) 4096 short) ∙ e

    by_size : {n : ℕ} → text_size 8 text ≡ n → {t : Bool} → not (eqb n 0) && eqb n (length text) ≡ t → is_taken text ≡ t
    unfolding is_text
    by_size e q = by_text (ap (λ n. not (eqb n 0) && eqb n (length text)) e ∙ q)

    -- the size of the outermost value
    abbrev size : ℕ
    size = value_size 8 (drop (blanks text) text)

    module _ {start : ℕ} (b : start ≡ 0 + blanks text) where
      start_is : start ≡ blanks text
      start_is = omega arith

      -- past the outermost value
      whole : past start (value_size 8 (drop start text)) ≡ past (blanks text) size
      whole = ap (λ k. past k (value_size 8 (drop k text))) start_is

      pub no_value_lem : Outermost text start None → refused ≡ received text
      unfolding text_size
      no_value_lem o =
          let none = none_read (blanks text) size (o ∙ whole) in
          not_taken
          (by_size {n = 0} (ap (λ t. cond t 0 (end_of_text (blanks text + size) text)) (eq-eqb size 0 none)) refl)

      module _ {found : Found} (o : Outermost text start (Some found)) {end : ℕ}
          (e : end ≡ found.past + blanks (drop found.past text)) where
        past_is : (found.past ≡ blanks text + size) × (size ≡ 0 → ⊥)
        past_is = some_read (blanks text) size found.past (o.0 ∙ whole)

        size_is : text_size 8 text ≡ end
        unfolding text_size
        size_is =
            ap (λ t. cond t 0 (end_of_text (blanks text + size) text)) (ne_eqb size 0 past_is.1)
            ∙ sym (e ∙ ap (λ k. k + blanks (drop k text)) past_is.0)

        pub more_text : (end ≡ length text → ⊥) → refused ≡ received text
        more_text h = not_taken (by_size size_is (rw (ne_eqb end (length text) h) (and-false (not (eqb end 0)))))

        pub whole_text : end ≡ length text → given_by (message_given (ours text)) ≡ received text
        whole_text h =
            taken (by_size size_is (λ i. not (ne_eqb end 0 (λ z. past_is.1 (omega (arith, past_is.0))) i)
            && eq-eqb end (length text) h i))

        pub our_places : Places text (ours text) found.ours
        unfolding text_said
        our_places =
            subst (λ k. Places text (members_of (value_said 8 (drop k text))) found.ours) start_is o.1

-- ---- what `?` and `ok_or` hand on

-- a refusal in the place of nothing
pub none_found : (o : Option Found) (x : Refusal) → Err x ≡ ok_or o Refusal.NotJson → (None ≡ o) × (x ≡ Refusal.NotJson)
none_found None x e = (refl, cc)
none_found (Some found) x e = absurd (cc)

pub some_found : (o : Option Found) (found : Found) → Ok found ≡ ok_or o Refusal.NotJson → Some found ≡ o
some_found None found e = absurd (cc)
some_found (Some f) found e = cc

pub refused_in : (r : Result Message Refusal) (x : Refusal) → IsErrAnd r (λ e. e ≡ x) → x ≡ Refusal.NotJson
    → received_in r ≡ record { answer = 15; message = no_message }
refused_in (Ok m) x h e = absurd h
refused_in (Err y) x h e = ap (λ z. received_in (Err z)) (h ∙ e)

pub given_in : (o : Option Message) → received_in (ok_or o Refusal.BadMember) ≡ given_by o
given_in None = refl
given_in (Some message) = refl
