-- RFC 3629, section 3: the octets of a character, by the table there; RFC 2781, section 2.1: its code units in UTF-16, as which RFC 8259 (sections 7 and 8.3)
-- takes it.
use Rattle.std.specs.Prelude.{ℕ, ◌+◌, ◌-◌, ◌/◌, ◌%◌, Bool, cond, not, ◌&&◌, List, [], ◌∷◌, leb, ltb}
use Rattle.rules_json.specs.Abnf.{within}

-- U+0000 to U+10FFFF. "The definition of UTF-8 prohibits encoding character numbers between U+D800 and U+DFFF".
abbrev pub character : ℕ → Bool
character c = leb c 0x10FFFF && not (within 0xD800 0xDFFF c)

-- 10xxxxxx
abbrev pub following : ℕ → ℕ
following bits = 0x80 + bits % 64

--   0000 0000-0000 007F | 0xxxxxxx
--   0000 0080-0000 07FF | 110xxxxx 10xxxxxx
--   0000 0800-0000 FFFF | 1110xxxx 10xxxxxx 10xxxxxx
--   0001 0000-0010 FFFF | 11110xxx 10xxxxxx 10xxxxxx 10xxxxxx
unfoldable pub utf8 : ℕ → List ℕ
utf8 c =
    cond (leb c 0x7F) (c ∷ [])
    (cond (leb c 0x7FF) ((0xC0 + c / 64) ∷ following c ∷ [])
    (cond (leb c 0xFFFF) ((0xE0 + c / 4096) ∷ following (c / 64) ∷ following c ∷ [])
    ((0xF0 + c / 262144) ∷ following (c / 4096) ∷ following (c / 64) ∷ following c ∷ [])))

-- A character from U+10000 on is a pair of surrogates.
unfoldable pub utf16 : ℕ → List ℕ
utf16 c =
    cond (ltb c 0x10000) (c ∷ [])
    ((0xD800 + (c - 0x10000) / 1024) ∷ (0xDC00 + (c - 0x10000) % 1024) ∷ [])
