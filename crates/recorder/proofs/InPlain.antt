-- What is filled and put down line by line is the text's reports appended, and the numbers of their lines put at the
-- start of the list.
-- Assumes nothing.
use Prim.Native.Nat.{ℕ, suc, ◌+◌, ◌≤◌, ◌<◌}
use native.Mathlib.Omega.{arith}
use mathlib.Core.Path.{◌≡◌, refl, sym, ap, ◌∙◌}
use mathlib.Core.Bool.{Bool, true, false, cond}
use mathlib.Core.List.{List, [], ◌∷◌, ◌++◌}
use lib.ListN.{drop, length, set, take, length-set, take-append-drop}
use lib.Seq.{append_snoc, drop-set-lt, take-suc-set}
use Rattle.recorder.specs.ByLine.{filled_from, lines_from}
use Rattle.rules.specs.Words.{put}
use Rattle.rules.specs.declared.Report.{Report}
use Rattle.rules_plan.specs.Lines.{is_report, line_of}
use Rattle.rules_plan.specs.Recording.{Filling, entered, filled_with, lines_in, reports_in}

-- ---- the register

pub reports_filled : (f : Filling) (ls : List (List ℕ)) → filled_from f ls ≡ filled_with f (reports_in ls)
unfolding filled_from filled_with reports_in
reports_filled f [] = refl
reports_filled f (l ∷ ls) = go (is_report (line_of l)) (λ g. reports_filled g ls)
  where
    found : Report
    found = (line_of l).numbers

    go : (t : Bool) → ((g : Filling) → filled_from g ls ≡ filled_with g (reports_in ls))
        → filled_from (cond t (entered found f) f) ls ≡ filled_with f (cond t (found ∷ reports_in ls) (reports_in ls))
    go true ih = ih (entered found f)
    go false ih = ih f

-- as many as there are
count_filled : (f : Filling) (reports : List Report) → (filled_with f reports).count ≡ f.count + length reports
unfolding filled_with entered
count_filled f [] = omega arith
count_filled f (r ∷ rs) = count_filled (entered r f) rs ∙ omega arith

pub all_entered : (f : Filling) (ls : List (List ℕ)) → (filled_from f ls).count ≡ f.count + length (reports_in ls)
all_entered f ls = ap (λ (g : Filling). g.count) (reports_filled f ls) ∙ count_filled f (reports_in ls)

-- ---- the list of lines

-- one number more, behind the first of the list
one_put : (count line : ℕ) (rest rows : List ℕ) → count < length rows
    → put (suc count) rest (set rows count line) ≡ put count (line ∷ rest) rows
one_put count line rest rows h =
    let past : suc count + length rest ≡ count + suc (length rest) = omega arith in
    let behind = drop-set-lt (suc count + length rest) rows count line (omega arith) in
    (λ i. take-suc-set rows count line h i ++ (rest ++ (behind ∙ ap (λ (n : ℕ). drop n rows) past) i))
    ∙ append_snoc (take count rows) line _

pub lines_from_lem : (line count : ℕ) (rows : List ℕ) (ls : List (List ℕ)) →
    count + length (lines_in line ls) ≤ length rows
    → lines_from line count rows ls ≡ put count (lines_in line ls) rows
unfolding lines_from lines_in
lines_from_lem line count rows [] h =
    let here : count ≡ count + 0 = omega arith in
    sym (take-append-drop count rows) ∙ ap (λ (n : ℕ). take count rows ++ drop n rows) here
lines_from_lem line count rows (l ∷ ls) h =
    go (is_report (line_of l)) h (λ n more. lines_from_lem (suc line) n more ls)
  where
    rest : List ℕ
    rest = lines_in (suc line) ls

    go : (t : Bool) → count + length (cond t (line ∷ rest) rest) ≤ length rows
        → ((n : ℕ) (more : List ℕ) → n + length rest ≤ length more → lines_from (suc line) n more ls ≡ put n rest more)
        → cond t (lines_from (suc line) (suc count) (set rows count line) ls) (lines_from (suc line) count rows ls)
        ≡ put count (cond t (line ∷ rest) rest) rows
    go true h ih =
        ih (suc count) (set rows count line) (omega (arith, length-set rows count line))
        ∙ one_put count line rest rows (omega arith)
    go false h ih = ih count rows h
