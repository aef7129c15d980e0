-- Document 02, request 1: whatever reads as asked reads as ours does, so idle readers are shut out, each at a text
-- where it falls.
-- Assumes nothing.
use Prim.Native.Nat.{ℕ}
use native.Mathlib.Decide.{ℕ_discrete}
use native.Mathlib.Omega.{arith}
use mathlib.Core.Path.{◌≡◌, refl, sym, ap, subst, ◌∙◌}
use mathlib.Core.List.{List}
use Rattle.demands.proofs.Exactly.{only_one}
use Rattle.demands.proofs.Screens.{reads}
use Rattle.demands.proofs.ScreensStated.{done_taken, stated_receiving}
use Rattle.demands.specs.IdleReaders.{ReadsAsAsked, answers_always, gives_last, gives_zeros, one_track, two_stations}
use Rattle.demands.specs.Screens.{MessageIs, Says}
use Rattle.demands.specs.Stated.{of_receiving}
use Rattle.rules.specs.Screen.{is_taken, members_of, our_number, reading_answer, received, tracks_of}
use Rattle.rules.specs.Words.{◌if◌then◌}
use Rattle.rules.specs.declared.Received.{Received}
use Rattle.rules_json.specs.Reader.{blanks, bracketed_said, bracketed_size, char_size, char_units, decoded, digits}
use Rattle.rules_json.specs.Reader.{escape_size, exp_size, frac_size, int_size, is_text, name_size, number_size}
use Rattle.rules_json.specs.Reader.{scalar_said}
use Rattle.rules_json.specs.Reader.{scalar_size, string_size, string_units, text_said, text_size, utf8_size, value_said}
use Rattle.rules_json.specs.Reader.{value_size}
use Rattle.rules_json.specs.Tree.{Tree}
use Rattle.rules_json.specs.Utf8.{utf16}

-- what the two texts are read with
of_screens : Unit {0}
unfolding received reading_answer is_taken tracks_of our_number ◌if◌then◌
of_screens = tt

of_texts : Unit {0}
unfolding blanks bracketed_size bracketed_said name_size value_size value_said text_size is_text text_said
of_texts = tt

of_scalars : Unit {0}
unfolding utf16 utf8_size decoded escape_size char_size char_units string_size string_units digits int_size frac_size
    exp_size
    number_size scalar_size scalar_said
of_scalars = tt

-- the station that is read at these texts, with answer 0
one_track_lem : ((received one_track).answer ≡ 0) × ((received one_track).message.station ≡ 1)
unfolding of_screens of_texts of_scalars
one_track_lem = (refl, refl)

two_stations_lem : ((received two_stations).message.station ≡ 1) × ((gives_last two_stations).message.station ≡ 2)
unfolding of_screens of_texts of_scalars
two_stations_lem = (refl, refl)

whole_of : (r : Received) → r.answer ≡ 0 → r ≡ record { answer = 0; message = r.message }
whole_of r z = λ i. record { answer = z i; message = r.message }

gives : (s : List ℕ) (x : Tree 8) → Says x s → (received s).answer ≡ 0 → MessageIs (received s).message (members_of x)
gives s x t z =
    let (y, u, is) = (reads.gives s (received s).message).0 (whole_of (received s) z) in
    subst (λ (w : Tree 8). MessageIs (received s).message (members_of w)) (reads.says_one s y x u t) is

-- Ours reads as asked,
pub as_asked : ReadsAsAsked received
as_asked = record { answers = stated_receiving; refused = reads.refused; gives = gives }

-- and whatever does gives the same.
pub only_received : (read : List ℕ → Received) → ReadsAsAsked read → (s : List ℕ) → read s ≡ received s
only_received read asked s = λ i. record { answer = answer i; message = message (ℕ_discrete (received s).answer 0) i }
  where
    answer : (read s).answer ≡ (received s).answer
    answer = only_one (of_receiving s) (read s).answer (received s).answer (asked.answers s) (stated_receiving s)

    message : Dec ((received s).answer ≡ 0) → (read s).message ≡ (received s).message
    message (yes z) =
        let (x, t, _) = done_taken s z in
        ap (λ (r : Received). r.message)
        (sym ((reads.gives s (read s).message).1 (x, t, asked.gives s x t (answer ∙ z))))
    message (no z) = asked.refused s (λ e. z (sym answer ∙ e)) ∙ sym (reads.refused s z)

-- So neither does one that answers 15 to everything, nor one that answers 16, nor one that gives zeros: at a text that
-- we write.
pub answers_always_lem : (n : ℕ) → (n ≡ 0 → ⊥) → ReadsAsAsked (answers_always n) → ⊥
answers_always_lem n h asked =
    h (ap (λ (r : Received). r.answer) (only_received (answers_always n) asked one_track) ∙ one_track_lem.0)

pub gives_zeros_lem : ReadsAsAsked gives_zeros → ⊥
gives_zeros_lem asked =
    let station : ◌≡◌ {A = ℕ} 0 1 =
    ap (λ (r : Received). r.message.station) (only_received gives_zeros asked one_track) ∙ one_track_lem.1 in
    omega arith

-- Nor does one that gives the last of each: at a text with two stations.
pub gives_last_lem : ReadsAsAsked gives_last → ⊥
gives_last_lem asked =
    let station : ◌≡◌ {A = ℕ} 2 1 =
    sym two_stations_lem.1 ∙ ap (λ (r : Received). r.message.station) (only_received gives_last asked two_stations)
    ∙ two_stations_lem.0 in
    omega arith
