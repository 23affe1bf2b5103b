-- What a reader of lines holds and gives.
use Rattle.std.specs.Prelude.{ℕ, ◌≡◌, ◌==◌, Bool, true, false, cond, List, [], ◌∷◌, ◌++◌, ◌-◌, length, take, drop}
use Rattle.std.specs.Prelude.{Result, Ok, Err}
use Rattle.std.specs.List.{position_or_len}
use Rattle.script_lang.specs.Lines.{lines_of}
use Rattle.line_source.specs.declared.faults.ReadFault.{ReadFault}
use Rattle.line_source.specs.declared.reader.LineReader.{LineReader}

-- what was read of the source and not given yet
abbrev pub waiting : LineReader → List ℕ
waiting r = take (r.end - r.at) (drop r.at r.piece.items)

-- the bytes of a line that are kept: a line may have 4,194,304 and a byte 13, and one more shows that it has too many
abbrev pub kept_bytes : List ℕ → List ℕ
kept_bytes line = take 4194306 line

-- where the reader knows that the source is at its end, it is
abbrev pub KnowsEnd : LineReader → List ℕ → Type 0
KnowsEnd r left = r.has_ended ≡ true → left ≡ []

-- the lines that the reader has to give, over a source with these bytes left
abbrev pub lines_left : LineReader → List ℕ → List (List ℕ)
lines_left r left = lines_of (waiting r ++ left)

-- the reader holds no bytes, and hasn't seen the end
abbrev pub IsUnread : LineReader → Type 0
IsUnread r = (waiting r ≡ []) × (r.has_ended ≡ false)

-- A line was given, as far as it is kept. Where the source tells its bytes it is the first of the lines.
pub record GivesLine (told : Type 0) (old : LineReader) (left : List ℕ) (new : LineReader) (now bytes : List ℕ)
    : Type 0 where
  pub line : List ℕ
  pub bytes_are : bytes ≡ kept_bytes line
  pub first : told → KnowsEnd old left → lines_left old left ≡ line ∷ lines_left new now
  pub ended : told → KnowsEnd old left → KnowsEnd new now

-- a line was given; there was none, and the source is at its end; or it failed
abbrev pub Gives : (told : Type 0) → LineReader → (left : List ℕ) → LineReader → (now bytes : List ℕ)
    → Result Bool ReadFault → Type 0
Gives told old left new now bytes (Ok true) = GivesLine told old left new now bytes
Gives told old left new now bytes (Ok false) = told → KnowsEnd old left → (lines_left old left ≡ []) × (now ≡ [])
Gives told old left new now bytes (Err fault) = Unit {0}

-- ---- the steps

-- of these bytes those that wait now were read before or by this step, or there were none
pub record HoldsBytes (r : LineReader) (bytes now : List ℕ) (is_more : Bool) : Type 0 where
  pub whole : bytes ≡ waiting r ++ now
  pub ended : KnowsEnd r now
  pub none : is_more ≡ false → (waiting r ≡ []) × (now ≡ [])

-- what waited up to a byte 10, or all of it, was taken to the end of a line of which this was seen before
pub record TakesPart (old new : LineReader) (seen bytes : List ℕ) (is_whole : Bool) : Type 0 where
  pub part : List ℕ
  pub plain : position_or_len (λ b. b == 10) part ≡ length part
  pub bytes_are : bytes ≡ kept_bytes (seen ++ part)
  pub waited : waiting old ≡ cond is_whole (part ++ 10 ∷ waiting new) part
  pub none : is_whole ≡ false → waiting new ≡ []
  pub ended : new.has_ended ≡ old.has_ended
