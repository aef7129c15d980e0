-- Letters of our names, as the strings of a text say them.
use Rattle.std.specs.Prelude.{ℕ, Bool, cond, ◌&&◌, List, [], ◌∷◌, eqb}
use Rattle.rules.specs.Screen.{same}
use Rattle.rules_json.specs.Abnf.{within}
use Rattle.rules_json.specs.Grammar.{hex_value, hexdig}
use Rattle.rules_json.specs.Reader.{char_size, char_units}

-- a to z
abbrev pub is_letter : ℕ → Bool
is_letter b = within 0x61 0x7A b

-- an octet is the hexadecimal digit of a number
unfoldable pub stands_for : ℕ → ℕ → Bool
stands_for found number = hexdig found && eqb (hex_value found) number

-- how many octets at the head say a letter, after escapes: 0 where they say something else
unfoldable pub letter_size : ℕ → List ℕ → ℕ
letter_size letter s = cond (same (char_units s) (letter ∷ [])) (char_size s) 0
