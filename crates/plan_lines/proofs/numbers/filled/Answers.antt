-- `filled`: the words that each name has behind it, read from left to right.
use Rattle.plan_lines.specs.Behind.{left}
use Rattle.rules_plan.specs.Answered.{word_number}
use Rattle.rules_plan.specs.Lines.{mosts, numbers_of}
use Rattle.rules_plan.specs.Words.{words as Words·words}
use Rattle.std.proofs.Common.{◌≡◌, [], ◌∷◌, ap, rules, ◌∙◌}
use Rattle.plan_lines.proofs.numbers.filled.Goals as goal

pub returns-in-Setting-Tracks-clause-told : goal.returns-in-Setting-Tracks-clause-told
unfolding mosts
returns-in-Setting-Tracks-clause-told c =
    let these : 255 ∷ [] ≡ mosts (word_number c.args.word) = search rules in
    c.byte.ensures.told []
    ∙ ap (λ ms. left ms c.args.behind.now.understood (Words·words c.args.behind.now.words.line.now)) these

pub returns-in-Report-Occupied-clause-told : goal.returns-in-Report-Occupied-clause-told
unfolding mosts
returns-in-Report-Occupied-clause-told c =
    let these : 255 ∷ 255 ∷ [] ≡ mosts (word_number c.args.word) = search rules in
    c.byte-in-Report-Occupied-2.ensures.told [] ∙ c.byte-in-Report-Occupied.ensures.told (255 ∷ [])
    ∙ ap (λ ms. left ms c.args.behind.now.understood (Words·words c.args.behind.now.words.line.now)) these

pub returns-in-Report-Free-clause-told : goal.returns-in-Report-Free-clause-told
unfolding mosts
returns-in-Report-Free-clause-told c =
    let these : 255 ∷ 255 ∷ [] ≡ mosts (word_number c.args.word) = search rules in
    c.byte-in-Report-Free-2.ensures.told [] ∙ c.byte-in-Report-Free.ensures.told (255 ∷ [])
    ∙ ap (λ ms. left ms c.args.behind.now.understood (Words·words c.args.behind.now.words.line.now)) these

pub returns-in-Report-Failed-clause-told : goal.returns-in-Report-Failed-clause-told
unfolding mosts
returns-in-Report-Failed-clause-told c =
    let these : 255 ∷ 255 ∷ [] ≡ mosts (word_number c.args.word) = search rules in
    c.byte-in-Report-Failed-2.ensures.told [] ∙ c.byte-in-Report-Failed.ensures.told (255 ∷ [])
    ∙ ap (λ ms. left ms c.args.behind.now.understood (Words·words c.args.behind.now.words.line.now)) these

pub returns-in-Report-Restored-clause-told : goal.returns-in-Report-Restored-clause-told
unfolding mosts
returns-in-Report-Restored-clause-told c =
    let these : 255 ∷ 255 ∷ [] ≡ mosts (word_number c.args.word) = search rules in
    c.byte-in-Report-Restored-2.ensures.told [] ∙ c.byte-in-Report-Restored.ensures.told (255 ∷ [])
    ∙ ap (λ ms. left ms c.args.behind.now.understood (Words·words c.args.behind.now.words.line.now)) these

pub returns-in-Report-Clock-clause-told : goal.returns-in-Report-Clock-clause-told
unfolding mosts
returns-in-Report-Clock-clause-told c =
    let these : 65535 ∷ [] ≡ mosts (word_number c.args.word) = search rules in
    c.sixteen_bits-in-Report-Clock.ensures.told []
    ∙ ap (λ ms. left ms c.args.behind.now.understood (Words·words c.args.behind.now.words.line.now)) these

pub returns-in-Report-Head-clause-told : goal.returns-in-Report-Head-clause-told
unfolding mosts
returns-in-Report-Head-clause-told c =
    let these : 255 ∷ 65535 ∷ [] ≡ mosts (word_number c.args.word) = search rules in
    c.sixteen_bits-in-Report-Head.ensures.told [] ∙ c.byte-in-Report-Head.ensures.told (65535 ∷ [])
    ∙ ap (λ ms. left ms c.args.behind.now.understood (Words·words c.args.behind.now.words.line.now)) these

pub returns-in-Report-Report-clause-told : goal.returns-in-Report-Report-clause-told
unfolding mosts
returns-in-Report-Report-clause-told c =
    let these : 255 ∷ 255 ∷ 255 ∷ 255 ∷ 65535 ∷ [] ≡ mosts (word_number c.args.word) = search rules in
    c.sixteen_bits-in-Report-Report.ensures.told []
    ∙ c.byte-in-Report-Report-4.ensures.told (65535 ∷ [])
    ∙ c.byte-in-Report-Report-3.ensures.told (255 ∷ 65535 ∷ [])
    ∙ c.byte-in-Report-Report-2.ensures.told (255 ∷ 255 ∷ 65535 ∷ [])
    ∙ c.byte-in-Report-Report.ensures.told (255 ∷ 255 ∷ 255 ∷ 65535 ∷ [])
    ∙ ap (λ ms. left ms c.args.behind.now.understood (Words·words c.args.behind.now.words.line.now)) these

pub returns-in-Report-Normalise-clause-told : goal.returns-in-Report-Normalise-clause-told
unfolding mosts
returns-in-Report-Normalise-clause-told c =
    let these : [] ≡ mosts (word_number c.args.word) = search rules in
    ap (λ ms. left ms c.args.behind.now.understood (Words·words c.args.behind.now.words.line.now)) these

pub returns-in-Other-clause-told : goal.returns-in-Other-clause-told
unfolding mosts
returns-in-Other-clause-told c =
    let these : [] ≡ mosts (word_number c.args.word) = search rules in
    ap (λ ms. left ms c.args.behind.now.understood (Words·words c.args.behind.now.words.line.now)) these

pub returns-in-Setting : goal.returns-in-Setting
unfolding mosts numbers_of
returns-in-Setting c =
    let these : 65535 ∷ [] ≡ mosts (word_number c.args.word) = search rules in
    let filled : c.report-in-Setting.result ≡ numbers_of (word_number c.args.word)
    (Words·words c.args.behind.now.words.line.now) = search rules in
    record {
      value = filled;
      told = c.sixteen_bits.ensures.told []
          ∙ ap (λ ms. left ms c.args.behind.now.understood (Words·words c.args.behind.now.words.line.now)) these;
    }
