-- What a parse has found for an option whose values pass a parser.
use Rattle.std.specs.Prelude.{◌≡◌, ◌⊎◌, ℕ, List, Some, None, All, Bool, true, [], ◌∷◌, ◌&&◌, not, map, codes, is_some}
use Rattle.std.specs.List.{list_any}
use Rattle.std.specs.Str.{bytes_eq}
use Rattle.clap.specs.Words.{App, Rule, Accepts, first_value, one_text, read_as, reading_of}
use Rattle.clap.specs.Faults.{is_simple_and_free}
use Rattle.clap.specs.Facts.{parser_of_value}
use Rattle.clap.specs.declared.builder.value_parser.ValueParser.{ValueParser}
use Rattle.clap.specs.declared.parser.matches.Found.{Found}

-- a text that passes the parser, and is read as the parser says
pub record HasText (found : Found) (id : List ℕ) (ignore_case : Bool) (parser : ValueParser) : Type 0 where
  pub text : List ℕ
  pub first : first_value found id ≡ Some text
  pub read : one_text found id ≡ Some (read_as (reading_of parser) text)
  pub passes : Accepts ignore_case parser text

-- for an option such a text, or nothing
abbrev pub IsOptionText : Found → Rule → Type 0
IsOptionText found option =
    ((first_value found option.id ≡ None) × (one_text found option.id ≡ None))
    ⊎ HasText found option.id option.ignore_case (parser_of_value option.parser)

-- the same of each option that has a parser
abbrev pub AreOptionTexts : Found → List Rule → Type 0
AreOptionTexts found options = All (λ option. is_some option.parser ≡ true → IsOptionText found option) options

-- no two names are the same
abbrev pub are_distinct : List (List ℕ) → Bool
are_distinct [] = true
are_distinct (x ∷ xs) = not (list_any (bytes_eq x) xs) && are_distinct xs

-- the command is one of which `clap` tells all, and each of its options is known by a name of its own
abbrev pub is_plain : App → Bool
is_plain command =
    is_simple_and_free command && are_distinct
    (codes "" ∷ codes "help" ∷ codes "version" ∷ map (λ option. option.id) command.top.rules)
