-- What the words of the command line ask for: a folder, the name of a command, and the command's options, which `clap`
-- reads.
use Rattle.std.specs.Prelude.{ℕ, ◌≤◌, ◌==◌, ◌&&◌, Bool, true, not, nat_le, if◌then◌else◌, List, [], ◌∷◌, length, fold}
use Rattle.std.specs.Prelude.{find, false, Option, Some, None, unwrap_or, option_and_then, option_map, codes, pos, All}
use Rattle.std.specs.List.{list_all, slice_split}
use Rattle.std.specs.Str.{bytes_eq}
use Rattle.std.specs.Str.Parse.{digits_value, without_leading_sign}
use Rattle.clap.specs.Words.{App, Row, Rule, Kinds, new_app, new_rule, with_rule, first_of, matches_of, fault_of}
use Rattle.clap.specs.declared.builder.action.ArgAction.TheVariants.{SetTrue}
use Rattle.clap.specs.declared.builder.value_parser.ValueParser.TheVariants as parser
use Rattle.command_words.specs.declared.Words.{Words}
use Rattle.command_words.specs.declared.Words.TheVariants as words

-- what can be asked for
pub data Task : Type 0 where
  Run : (cache forks : ℕ) → Task
  Load : (columns : List (List ℕ)) (forks : ℕ) → Task
  Explain : (cache : ℕ) → Task
  Check : Task
  Generate : (docs seed forks : ℕ) → Task
  Session : (cache forks : ℕ) → Task
  Count : (cache : ℕ) → Task
  Ranges : (cache forks : ℕ) → Task
  Batch : (forks : ℕ) → Task
  MergingBatch : (forks : ℕ) → Task
  Export : (as_ranges : Bool) → Task
  Info : Task

-- ---- the options

-- an option `--name TEXT`, of any text
abbrev pub text_option : List ℕ → Rule
text_option name = record (new_rule name) { long = Some name }

-- `--name N`, where N is a number in the range
abbrev pub number_option : List ℕ → ℕ → ℕ → Rule
number_option name least greatest =
    record (text_option name) { parser = Some (parser.Signed (pos least) (pos greatest)) }

-- an option `--name` that is there or not, and has no value
abbrev pub flag : List ℕ → Rule
flag name = record (text_option name) { action = Some SetTrue }

-- an option that may not be left out
abbrev pub required_option : Rule → Rule
required_option option = record option { required = true }

abbrev pub cache : Rule
cache = number_option (codes "cache") 1 65536

abbrev pub forks : Rule
forks = number_option (codes "forks") 0 6

abbrev pub columns : Rule
columns = required_option (text_option (codes "columns"))

abbrev pub docs : Rule
docs = required_option (number_option (codes "docs") 1 1000000)

abbrev pub seed : Rule
seed = required_option (number_option (codes "seed") 1 2147483646)

abbrev pub merge : Rule
merge = flag (codes "merge")

abbrev pub as_ranges : Rule
as_ranges = flag (codes "as-ranges")

-- ---- what is found for them

-- the number that is read from a text, where the range has no negative number
abbrev pub number_of : List ℕ → ℕ
number_of text = digits_value 10 (without_leading_sign text)

-- the number given by an option
abbrev pub number_by : Rule → List Row → Option ℕ
number_by option found = option_map number_of (first_of option.id found)

abbrev pub cache_by : List Row → ℕ
cache_by found = unwrap_or (number_by cache found) 1024

abbrev pub forks_by : List Row → ℕ
forks_by found = unwrap_or (number_by forks found) 1

-- a flag is set: its text is then `true`, which no word can say otherwise
abbrev pub is_true : Option (List ℕ) → Bool
is_true None = false
is_true (Some text) = bytes_eq text (codes "true")

abbrev pub is_set : List ℕ → List Row → Bool
is_set name found = is_true (first_of name found)

-- the names between the commas of a text: 1 to 8, none of them empty
unfoldable pub are_names : List (List ℕ) → Bool
are_names names = nat_le (length names) 8 && list_all (λ name. not (length name == 0)) names

abbrev pub checked_names : List (List ℕ) → Option (List (List ℕ))
checked_names names = if are_names names then Some names else None

unfoldable pub names_of : List ℕ → Option (List (List ℕ))
names_of text = checked_names (slice_split (λ b. b == 44) text)

abbrev pub columns_by : List Row → Option (List (List ℕ))
columns_by found = option_and_then names_of (first_of columns.id found)

-- ---- the commands

-- a command: its name, its options, and what is asked for by what is found for them
pub record Form : Type 0 where
  pub name : List ℕ
  pub options : List Rule
  pub asks : List Row → Option Task

abbrev pub run : Form
run = record {
  name = codes "run";
  options = cache ∷ forks ∷ [];
  asks = λ found. Some (Run (cache_by found) (forks_by found));
}

abbrev pub load : Form
load = record {
  name = codes "load";
  options = columns ∷ forks ∷ [];
  asks = λ found. option_map (λ names. Load names (forks_by found)) (columns_by found);
}

abbrev pub explain : Form
explain = record {
  name = codes "explain";
  options = cache ∷ [];
  asks = λ found. Some (Explain (cache_by found));
}

abbrev pub check : Form
check = record {
  name = codes "check";
  options = [];
  asks = λ found. Some Check;
}

abbrev pub generate : Form
generate = record {
  name = codes "generate";
  options = docs ∷ seed ∷ forks ∷ [];
  asks = λ found. option_and_then (λ n. option_map (λ s. Generate n s (forks_by found)) (number_by seed found))
      (number_by docs found);
}

abbrev pub session : Form
session = record {
  name = codes "session";
  options = cache ∷ forks ∷ [];
  asks = λ found. Some (Session (cache_by found) (forks_by found));
}

abbrev pub count : Form
count = record {
  name = codes "count";
  options = cache ∷ [];
  asks = λ found. Some (Count (cache_by found));
}

abbrev pub ranges : Form
ranges = record {
  name = codes "ranges";
  options = cache ∷ forks ∷ [];
  asks = λ found. Some (Ranges (cache_by found) (forks_by found));
}

abbrev pub batch : Form
batch = record {
  name = codes "batch";
  options = forks ∷ merge ∷ [];
  asks = λ found. Some (if is_set merge.id found then MergingBatch (forks_by found) else Batch (forks_by found));
}

abbrev pub export : Form
export = record {
  name = codes "export";
  options = as_ranges ∷ [];
  asks = λ found. Some (Export (is_set as_ranges.id found));
}

abbrev pub info : Form
info = record {
  name = codes "info";
  options = [];
  asks = λ found. Some Info;
}

abbrev pub forms : List Form
forms = run ∷ load ∷ explain ∷ check ∷ generate ∷ session ∷ count ∷ ranges ∷ batch ∷ export ∷ info ∷ []

-- ---- the words

-- the form as a simple command of `clap`
abbrev pub command_of : Form → App
command_of form = fold with_rule (new_app form.name) form.options

-- what is found, where there is no kind of error
abbrev pub unless_refused : Kinds → List Row → Option (List Row)
unless_refused [] found = Some found
unless_refused (kind ∷ kinds) found = None

-- what `clap` finds in the words by a command, whose own name they begin with; None where it refuses them
unfoldable pub found_by : App → List (List ℕ) → Option (List Row)
found_by command words = unless_refused (fault_of command words) (matches_of command words)

-- what the words of a command ask for
abbrev pub task_by : Form → List (List ℕ) → Option Task
task_by form words = option_and_then form.asks (found_by (command_of form) words)

-- what the words after the program's own name ask for; None where they are those of no command
abbrev pub task_in : List (List ℕ) → Option Task
task_in [] = None
task_in (folder ∷ []) = None
task_in (folder ∷ name ∷ options) =
    option_and_then (λ form. task_by form (name ∷ options)) (find (λ form. bytes_eq name form.name) forms)

-- the task that words that were read stand for
abbrev pub task_of : Words → Task
task_of (words.Run cache_pages forks) = Run cache_pages forks
task_of (words.Load columns forks) = Load columns.items forks
task_of (words.Explain cache_pages) = Explain cache_pages
task_of words.Check = Check
task_of (words.Generate docs seed forks) = Generate docs seed forks
task_of (words.Session cache_pages forks) = Session cache_pages forks
task_of (words.Count cache_pages) = Count cache_pages
task_of (words.Ranges cache_pages forks) = Ranges cache_pages forks
task_of (words.Batch forks) = Batch forks
task_of (words.MergingBatch forks) = MergingBatch forks
task_of (words.Export as_ranges) = Export as_ranges
task_of words.Info = Info

-- ---- the ranges

abbrev pub AreColumns : List (List ℕ) → Type 0
AreColumns names = (1 ≤ length names) × (length names ≤ 8) × All (λ name. 1 ≤ length name) names

-- what is answered lies within the ranges of its options
abbrev pub IsWithin : Words → Type 0
IsWithin (words.Run cache_pages forks) = (1 ≤ cache_pages) × (cache_pages ≤ 65536) × (forks ≤ 6)
IsWithin (words.Load columns forks) = AreColumns columns.items × (forks ≤ 6)
IsWithin (words.Explain cache_pages) = (1 ≤ cache_pages) × (cache_pages ≤ 65536)
IsWithin words.Check = Unit {0}
IsWithin (words.Generate docs seed forks) = (1 ≤ docs) × (docs ≤ 1000000) × (1 ≤ seed) × (seed ≤ 2147483646)
    × (forks ≤ 6)
IsWithin (words.Session cache_pages forks) = (1 ≤ cache_pages) × (cache_pages ≤ 65536) × (forks ≤ 6)
IsWithin (words.Count cache_pages) = (1 ≤ cache_pages) × (cache_pages ≤ 65536)
IsWithin (words.Ranges cache_pages forks) = (1 ≤ cache_pages) × (cache_pages ≤ 65536) × (forks ≤ 6)
IsWithin (words.Batch forks) = forks ≤ 6
IsWithin (words.MergingBatch forks) = forks ≤ 6
IsWithin (words.Export as_ranges) = Unit {0}
IsWithin words.Info = Unit {0}
