-- Of each definition by which a promise reads what a line or a text says: it tells the cases apart, so that the promise
-- admits one outcome. Each has an inverse, which gives the case back.
-- Assumes nothing.
use Rattle.std.proofs.Common.{◌≡◌, ℕ, cond, ◌∷◌, [], get_or, refl, sym, ap, ◌∙◌}
use lib.Dec.{eqb}
use Rattle.std.specs.Prelude.{⊤, Option, None, Some, Result, Ok, Err}
use Rattle.rules_plan.specs.Answered.{fault_number, fault_of, first_word, recorded_in, said_line}
use Rattle.rules_plan.specs.declared.Fault.{Fault}
use Rattle.rules_plan.specs.declared.Line.{Line}
use Rattle.rules_plan.specs.declared.Misread.{Misread}
use Rattle.rules_plan.specs.declared.Recorded.{Recorded}
use Rattle.rules_plan.specs.declared.ReportWord.{ReportWord}
use Rattle.rules_plan.specs.declared.Setting.{Setting}
use Rattle.rules_plan.specs.declared.Spoken.{Spoken}
use Rattle.rules_plan.specs.declared.Word.{Word}

-- ---- words

abbrev word_back : ℕ → Option Word
word_back number =
    get_or
    (Some (Word.Setting Setting.Tracks) ∷ Some (Word.Setting Setting.T1) ∷
    Some (Word.Setting Setting.T2) ∷ Some (Word.Setting Setting.T3) ∷
    Some (Word.Setting Setting.T4) ∷ Some (Word.Setting Setting.T5) ∷
    Some (Word.Report ReportWord.Occupied) ∷ Some (Word.Report ReportWord.Free) ∷
    Some (Word.Report ReportWord.Clock) ∷ Some (Word.Report ReportWord.Failed) ∷
    Some (Word.Report ReportWord.Restored) ∷ Some (Word.Report ReportWord.Head) ∷
    Some (Word.Report ReportWord.Normalise) ∷ Some (Word.Report ReportWord.Report) ∷
    Some Word.Other ∷ None ∷ [])
    number None

word_given_back : (word : Option Word) → word_back (first_word word) ≡ word
word_given_back (Some (Word.Setting Setting.Tracks)) = refl
word_given_back (Some (Word.Setting Setting.T1)) = refl
word_given_back (Some (Word.Setting Setting.T2)) = refl
word_given_back (Some (Word.Setting Setting.T3)) = refl
word_given_back (Some (Word.Setting Setting.T4)) = refl
word_given_back (Some (Word.Setting Setting.T5)) = refl
word_given_back (Some (Word.Report ReportWord.Occupied)) = refl
word_given_back (Some (Word.Report ReportWord.Free)) = refl
word_given_back (Some (Word.Report ReportWord.Clock)) = refl
word_given_back (Some (Word.Report ReportWord.Failed)) = refl
word_given_back (Some (Word.Report ReportWord.Restored)) = refl
word_given_back (Some (Word.Report ReportWord.Head)) = refl
word_given_back (Some (Word.Report ReportWord.Normalise)) = refl
word_given_back (Some (Word.Report ReportWord.Report)) = refl
word_given_back (Some Word.Other) = refl
word_given_back None = refl

-- ---- faults

-- 0 is no fault's number, and stands for the first
abbrev fault_back : ℕ → Fault
fault_back number =
    get_or
    (Fault.NotAName ∷ Fault.NotAName ∷ Fault.NumberMissing ∷ Fault.WordTooMany ∷ Fault.NotAByte ∷ Fault.NotSixteenBits ∷
    Fault.LateSetting ∷ Fault.SetAlready ∷ Fault.SettingsMissing ∷ Fault.SettingsOutside ∷ Fault.TooManyReports ∷ [])
    number Fault.NotAName

-- what is given back of a number: the one where it is 0, the other where it is 11, and else a fault's
module _ {X : Type 0} where
  abbrev case_back : X → X → (Fault → X) → ℕ → X
  case_back understood ended wrong n = cond (eqb n 0) understood (cond (eqb n 11) ended (wrong (fault_back n)))

  wrong_back : (understood ended : X) (wrong : Fault → X) (fault : Fault) →
      case_back understood ended wrong (fault_number fault) ≡ wrong fault
  wrong_back understood ended wrong Fault.NotAName = refl
  wrong_back understood ended wrong Fault.NumberMissing = refl
  wrong_back understood ended wrong Fault.WordTooMany = refl
  wrong_back understood ended wrong Fault.NotAByte = refl
  wrong_back understood ended wrong Fault.NotSixteenBits = refl
  wrong_back understood ended wrong Fault.LateSetting = refl
  wrong_back understood ended wrong Fault.SetAlready = refl
  wrong_back understood ended wrong Fault.SettingsMissing = refl
  wrong_back understood ended wrong Fault.SettingsOutside = refl
  wrong_back understood ended wrong Fault.TooManyReports = refl

abbrev understood_back : ℕ → Result ⊤ Fault
understood_back = case_back (Ok tt) (Ok tt) Err

understood_given_back : (r : Result ⊤ Fault) → understood_back (fault_of r) ≡ r
understood_given_back (Ok _) = refl
understood_given_back (Err fault) = wrong_back (Ok tt) (Ok tt) Err fault

-- ---- a line, and a text

abbrev line_back : Line → Spoken
line_back l = record { word = word_back l.name; numbers = l.numbers; understood = understood_back l.fault }

line_given_back : (s : Spoken) → line_back (said_line s) ≡ s
line_given_back s = λ i. record {
  word = word_given_back s.word i;
  numbers = s.numbers;
  understood = understood_given_back s.understood i;
}

pub said_line_tells_apart : (s t : Spoken) → said_line s ≡ said_line t → s ≡ t
said_line_tells_apart s t e = sym (line_given_back s) ∙ (ap line_back e ∙ line_given_back t)

abbrev recorded_back : Recorded → Result ℕ Misread
recorded_back r =
    case_back (Ok r.count) (Err Misread.TextEnds) (λ fault. Err (Misread.AtLine r.line fault)) r.fault

recorded_given_back : (r : Result ℕ Misread) → recorded_back (recorded_in r) ≡ r
recorded_given_back (Ok count) = refl
recorded_given_back (Err Misread.TextEnds) = refl
recorded_given_back (Err (Misread.AtLine line fault)) =
    wrong_back (Ok 0) (Err Misread.TextEnds) (λ (f : Fault). Err (Misread.AtLine line f)) fault

pub recorded_in_tells_apart : (r s : Result ℕ Misread) → recorded_in r ≡ recorded_in s → r ≡ s
recorded_in_tells_apart r s e = sym (recorded_given_back r) ∙ (ap recorded_back e ∙ recorded_given_back s)
