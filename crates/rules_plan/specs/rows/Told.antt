-- Words for the rows: texts put together, and what is read of them told as numbers.
use Rattle.std.specs.Prelude.{ℕ, List, [], ◌∷◌, ◌++◌, map}
use Prim.Native.String.{String}
use Rattle.rules.specs.rows.RegisterRows.{report_told, settings_told}
use Rattle.rules.specs.rows.Row.{digits, together}
use Rattle.rules.specs.rows.Texts.{counted}
use Rattle.rules_json.specs.Abnf.{octets}
use Rattle.rules_plan.specs.Faults.{checked}
use Rattle.rules_plan.specs.Lines.{line_of}
use Rattle.rules_plan.specs.declared.Checked.{Checked}
use Rattle.rules_plan.specs.declared.Line.{Line}
use Rattle.rules_plan.specs.declared.Recorded.{Recorded}
use Rattle.rules_plan.specs.declared.Said.{Said}

-- ---- texts

-- what is typed in ASCII, one after the other
abbrev pub typed : List String → List ℕ
typed l = together (map octets l)

-- the same, each on a line of its own
abbrev pub on_lines : List String → List ℕ
on_lines l = together (map (λ s. octets s ++ (10 ∷ [])) l)

-- a byte order mark, typed
abbrev pub mark_typed : List ℕ
mark_typed = 0xEF ∷ 0xBB ∷ 0xBF ∷ []

-- ---- pieces

-- how long each is, and itself
abbrev pub each_told : List (List ℕ) → List ℕ
each_told l = together (map counted l)

-- the same of what is typed
abbrev pub these : List String → List ℕ
these l = each_told (map octets l)

-- ---- lines

-- name, fault, and the numbers: kind, a, b, spare, value
abbrev pub line_told : Line → List ℕ
line_told l = l.name ∷ l.fault ∷ report_told l.numbers

-- of lines that are typed, one after the other
abbrev pub lines_told : List String → List ℕ
lines_told l = together (map (λ s. line_told (line_of (octets s))) l)

-- what is wrong with each of them
abbrev pub wrongs : List String → List ℕ
wrongs l = map (λ s. (line_of (octets s)).fault) l

-- ---- whole texts

-- which settings were given, and what they are; how many reports
abbrev pub said_told : Said → List ℕ
said_told s = digits s.given ++ (settings_told s.settings ++ (s.reports ∷ []))

-- what is wrong, and on which line
abbrev pub fault_told : Checked → List ℕ
fault_told c = c.fault ∷ c.line ∷ []

-- of a text
abbrev pub fault : List ℕ → List ℕ
fault text = fault_told (checked text)

abbrev pub said_by : List ℕ → List ℕ
said_by text = said_told (checked text).said

abbrev pub recorded_told : Recorded → List ℕ
recorded_told r = r.fault ∷ r.line ∷ r.count ∷ []
