-- What writing a message gives, where it is refused, where it does not fit, and where it fits.
-- Assumes nothing.
use Prim.Native.Nat.{ℕ, ◌≤◌, ◌<◌}
use native.Mathlib.Decide.{dec_le}
use native.Mathlib.Omega.{arith}
use mathlib.Core.Path.{◌≡◌, refl, sym, subst, ap, ◌∙◌}
use mathlib.Core.Bool.{Bool, true, false, cond, not}
use mathlib.Core.List.{List}
use borrow.Author.Tests.{le-ltb, lt-ltb}
use lib.Dec.{eqb, ltb}
use lib.ListN.{length}
use Rattle.io.specs.Counts.{IsPrefixLen}
use Rattle.rules.specs.Screen.{after_writing, message_fits, writing_answer, written, written_of}
use Rattle.rules.specs.Words.{◌if◌then◌}
use Rattle.rules.specs.declared.Message.{Message}
use Rattle.rules.specs.declared.Written.{Written}
use Rattle.std.specs.Option.{ok_or}
use Rattle.std.specs.Prelude.{Err, IfOk, IfSome, Ok, Option, Result}
use Rattle.rules.specs.Answered.{written_in}
use Rattle.rules.specs.declared.Refusal.{Refusal}
use Rattle.rules.specs.Printer.{length_where_it_fits}
use Rattle.text.proofs.Placing.{Told, begun, bytes_fitted, bytes_unfitted, length_fitted, length_unfitted}

module _ (m : Message) (b : List ℕ) where
  abbrev size : ℕ
  size = length (written m)

  abbrev answer : Bool → Bool → ℕ
  answer fits short = 16 if not fits then 12 if short then 0

  -- what `write` promises
  abbrev Outcome : Result ℕ Refusal → List ℕ → Type 0
  Outcome r b' =
      record {
        value : written_in r ≡ written_of m (length b);
        buffer_after : b' ≡ after_writing m b;
        prefix_len : IfOk r (λ n. IsPrefixLen n b');
      }

  abbrev gives : Bool → Bool → Written
  gives fits short = record { answer = answer fits short; length = cond (eqb (answer fits short) 0) size 0 }

  given : (fits short : Bool) → message_fits m ≡ fits → ltb (length b) size ≡ short
      → gives fits short ≡ written_of m (length b)
  unfolding written_of writing_answer
  given fits short e h = sym (λ i. gives (e i) (h i))

  held : (fits short : Bool) → message_fits m ≡ fits → ltb (length b) size ≡ short
      → cond (eqb (answer fits short) 0) (begun (written m) b) b ≡ after_writing m b
  unfolding after_writing writing_answer
  held fits short e h = sym (λ i. cond (eqb (answer (e i) (h i)) 0) (begun (written m) b) b)

  pub refused : message_fits m ≡ false → Outcome (Err Refusal.BadMember) b
  unfolding ◌if◌then◌
  refused e = record { value = given false _ e refl; buffer_after = held false _ e refl; prefix_len = tt }

  module _ (fits : message_fits m ≡ true) (o : Option ℕ) (b' : List ℕ) (told : Told (written m) b o b') where
    -- where it fits, and where it does not
    fitted : size ≤ length b → Outcome (Ok size) b'
    unfolding ◌if◌then◌
    fitted h =
        let room = le-ltb (length b) size h in
        record {
          value = given true false fits room;
          buffer_after = told.out_after ∙ bytes_fitted (written m) b h ∙ held true false fits room;
          prefix_len = subst (λ r. IfSome r (λ n. IsPrefixLen n b')) (told.value ∙ length_fitted (written m) b h)
              told.prefix_len;
        }

    short : length b < size → Outcome (Err Refusal.NoRoom) b'
    unfolding ◌if◌then◌
    short h =
        let lacking = lt-ltb (length b) size h in
        record {
          value = given true true fits lacking;
          buffer_after = told.out_after ∙ bytes_unfitted (written m) b h ∙ held true true fits lacking;
          prefix_len = tt;
        }

    pub done : {r : Result ℕ Refusal} → r ≡ ok_or o Refusal.NoRoom → Outcome r b'
    done {r} e = go (dec_le size (length b))
      where
        -- what it then gives
        given_by : {p : Option ℕ} → length_where_it_fits (written m) b ≡ p → Outcome (ok_or p Refusal.NoRoom) b'
            → Outcome r b'
        given_by q = subst (λ r. Outcome r b') (sym (e ∙ ap (λ o. ok_or o Refusal.NoRoom) (told.value ∙ q)))

        go : Dec (size ≤ length b) → Outcome r b'
        go (yes h) = given_by (length_fitted (written m) b h) (fitted h)
        go (no h) =
            let less : length b < size = omega arith in
            given_by (length_unfitted (written m) b less) (short less)
