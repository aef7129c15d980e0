-- The words behind a name, read one by one: what is wrong with them.
-- Assumes nothing.
use Prim.Native.Nat.{ℕ}
use mathlib.Core.Bool.{cond, false, not}
use mathlib.Core.List.{List, [], ◌∷◌}
use mathlib.Core.Path.{◌≡◌, ap, ap₂, refl, sym, ◌∙◌}
use lib.Dec.{eqb}
use lib.ListN.{get_or}
use Rattle.plan_lines.specs.Behind.{left, reads}
use Rattle.rules.specs.Screen.{is_there, or_else, our_number}
use Rattle.rules.specs.Words.{◌if◌then◌, ◌▷◌}
use Rattle.rules.specs.declared.Report.{Report}
use Rattle.rules_plan.specs.Answered.{fault_number, fault_of, word_number}
use Rattle.rules_plan.specs.Lines.{line_said, mosts, numbers_of, words_fault}
use Rattle.rules_plan.specs.declared.Fault.{Fault}
use Rattle.rules_plan.specs.declared.ReportWord.{ReportWord}
use Rattle.rules_plan.specs.declared.Setting.{Setting}
use Rattle.rules_plan.specs.declared.Word.{Word}
use Rattle.std.proofs.Common.{Err, Ok, Result}
use Rattle.std.proofs.Math.Option as Math
use Rattle.std.proofs.Math.Option.{none, some}
use Rattle.std.specs.Prelude.{⊤}
use Rattle.std.specs.Result.{result_and}

-- a fault is no number of what is understood
pub some_fault : (fault : Fault) → eqb (fault_number fault) 0 ≡ false
some_fault Fault.NotAName = refl
some_fault Fault.NumberMissing = refl
some_fault Fault.WordTooMany = refl
some_fault Fault.NotAByte = refl
some_fault Fault.NotSixteenBits = refl
some_fault Fault.LateSetting = refl
some_fault Fault.SetAlready = refl
some_fault Fault.SettingsMissing = refl
some_fault Fault.SettingsOutside = refl
some_fault Fault.TooManyReports = refl

stands : (fault : Fault) (n : ℕ) → fault_number fault ▷ n ≡ fault_number fault
unfolding ◌▷◌
stands fault n = ap (λ t. cond t n (fault_number fault)) (some_fault fault)

-- what was wrong before comes first
first_stands : (before : Result ⊤ Fault) (fault : Fault) (n : ℕ)
    → fault_of (result_and before (Err fault)) ▷ n ≡ fault_of before ▷ (fault_number fault ▷ n)
unfolding ◌▷◌
first_stands (Ok _) fault n = refl
first_stands (Err first) fault n = stands first n ∙ sym (stands first (fault_number fault ▷ n))

module _ (most : ℕ) (before : Result ⊤ Fault) (words : List (List ℕ)) where
  module _ (word : List ℕ) (behind : List (List ℕ)) (e : words ≡ word ∷ behind) where
    by_word : (mosts : List ℕ) (o : Math.Option ℕ) → o ≡ our_number most word
        → fault_of before ▷ ((cond (eqb most 255) 4 5 if not (is_there o) then 0) ▷ words_fault mosts behind)
        ≡ left (most ∷ mosts) before words
    unfolding words_fault
    by_word mosts o f =
        ap (λ o. fault_of before ▷ ((cond (eqb most 255) 4 5 if not (is_there o) then 0) ▷ words_fault mosts behind)) f
        ∙ sym (ap (left (most ∷ mosts) before) e)

    pub read_right : (n : ℕ) → some n ≡ our_number most word → reads most before words before behind
    unfolding ◌▷◌ ◌if◌then◌
    read_right n f mosts = by_word mosts (some n) f

    pub read_wrong : (now : Result ⊤ Fault) (fault : Fault) → now ≡ result_and before (Err fault)
        → fault_number fault ≡ cond (eqb most 255) 4 5 → none ≡ our_number most word
        → reads most before words now behind
    unfolding ◌if◌then◌
    read_wrong now fault a k f mosts =
        ap (λ r. left mosts r behind) a
        ∙ first_stands before fault (words_fault mosts behind)
        ∙ ap (λ n. fault_of before ▷ (n ▷ words_fault mosts behind)) k
        ∙ by_word mosts none f

  pub read_missing : (behind : List (List ℕ)) (now : Result ⊤ Fault) (fault : Fault)
      → now ≡ result_and before (Err fault) → fault ≡ Fault.NumberMissing → words ≡ []
      → reads most before words now behind
  unfolding words_fault ◌▷◌
  read_missing behind now fault a k e mosts =
      ap (λ r. left mosts r behind) (a ∙ ap (λ f. result_and before (Err f)) k)
      ∙ first_stands before Fault.NumberMissing (words_fault mosts behind)
      ∙ sym (ap (left (most ∷ mosts) before) e)

-- the number of a word that is none
pub no_number : (most : ℕ) (words behind : List (List ℕ)) (word : List ℕ) → words ≡ word ∷ behind
    → none ≡ our_number most word → 0 ≡ or_else 0 (our_number most (get_or words 0 []))
no_number most words behind word e f =
    ap (or_else 0) f ∙ sym (ap (λ ws. or_else 0 (our_number most (get_or ws 0 []))) e)

pub no_word_number : (most : ℕ) (words : List (List ℕ)) → words ≡ []
    → 0 ≡ or_else 0 (our_number most (get_or words 0 []))
unfolding our_number
no_word_number most words e = sym (ap (λ ws. or_else 0 (our_number most (get_or ws 0 []))) e)

-- ---- where the words are to end

pub ended_early : (before : Result ⊤ Fault) (fault : Fault) (words : List (List ℕ)) → before ≡ Err fault
    → fault_number fault ≡ left [] before words
ended_early before fault words e =
    sym (ap (λ r. left [] r words) e ∙ stands fault (words_fault [] words))

pub ended_here : (before : Result ⊤ Fault) (x : ⊤) (words : List (List ℕ)) → before ≡ Ok x → words ≡ []
    → 0 ≡ left [] before words
unfolding words_fault ◌▷◌
ended_here before x words e f = sym (ap₂ (left []) e f)

pub ended_late : (before : Result ⊤ Fault) (x : ⊤) (words : List (List ℕ)) (word : List ℕ) (behind : List (List ℕ))
    → before ≡ Ok x → words ≡ word ∷ behind → 3 ≡ left [] before words
unfolding words_fault ◌▷◌
ended_late before x words word behind e f = sym (ap₂ (left []) e f)

-- ---- a line, where its first word is a name

a_name : (word : Word) → (word ≡ Word.Other → ⊥) → eqb (word_number word) 14 ≡ false
a_name Word.Other h = absurd (h refl)
a_name (Word.Setting Setting.Tracks) h = refl
a_name (Word.Setting Setting.T1) h = refl
a_name (Word.Setting Setting.T2) h = refl
a_name (Word.Setting Setting.T3) h = refl
a_name (Word.Setting Setting.T4) h = refl
a_name (Word.Setting Setting.T5) h = refl
a_name (Word.Report ReportWord.Occupied) h = refl
a_name (Word.Report ReportWord.Free) h = refl
a_name (Word.Report ReportWord.Clock) h = refl
a_name (Word.Report ReportWord.Failed) h = refl
a_name (Word.Report ReportWord.Restored) h = refl
a_name (Word.Report ReportWord.Head) h = refl
a_name (Word.Report ReportWord.Normalise) h = refl
a_name (Word.Report ReportWord.Report) h = refl

pub name_said : (word : Word) (words : List (List ℕ)) (x : ⊤) (fault : ℕ) (numbers : Report)
    → (word ≡ Word.Other → ⊥)
    → fault ≡ left (mosts (word_number word)) (Ok x) words
    → numbers ≡ numbers_of (word_number word) words
    → record { name = word_number word; fault = fault; numbers = numbers } ≡ line_said (word_number word) words
unfolding line_said ◌if◌then◌ ◌▷◌
name_said word words x fault numbers h e f =
    ap₂ (λ a b. record { name = word_number word; fault = a; numbers = b })
    (e ∙ sym (ap (λ t. cond t 1 (words_fault (mosts (word_number word)) words)) (a_name word h)))
    f
