-- What lines ask for, one after the other.
use Rattle.std.proofs.Common.{◌≡◌, ◌+◌, ℕ, Bool, true, List, [], ◌∷◌, refl, sym, ap, subst, ◌∙◌, inl, inr}
use Rattle.segment_file.specs.Heads.{Head}
use Rattle.script_lang.specs.Requests.{Request}
use Rattle.index_model.specs.State.{State}
use Rattle.script_run.specs.Costs.{AllAsk, AsksOnly, TouchesLine, TouchesLines, is_query}
use Rattle.script_run.specs.Languages.{answer, meaning}
use Rattle.script_run.specs.Script.{state_after}
use Rattle.script_run.specs.declared.language.Language.{Language}
use Rattle.script_run.proofs.Asking.{query_stays}

-- ---- lines

asks_weaker : (lang : Language) → (t u : Request → Bool) → ((r : Request) → t r ≡ true → u r ≡ true) → (line : ℕ) (state : State) (bytes : List ℕ)
    → AsksOnly lang t line state bytes → AsksOnly lang u line state bytes
asks_weaker lang t u weaker line state bytes (inl refused) = inl refused
asks_weaker lang t u weaker line state bytes (inr (r, says, test)) = inr (r, says, weaker r test)

pub all_weaker : (lang : Language) → (t u : Request → Bool) → ((r : Request) → t r ≡ true → u r ≡ true) → (line : ℕ) (state : State) (lines : List (List ℕ))
    → AllAsk lang t line state lines → AllAsk lang u line state lines
all_weaker lang t u weaker line state [] h = tt
all_weaker lang t u weaker line state (l ∷ ls) h =
    (asks_weaker lang t u weaker line state l h.0, all_weaker lang t u weaker (line + 1) (answer lang line state l).state ls h.1)

-- lines that are all queries leave the state
pub queries_stay : (lang : Language) → (line : ℕ) (state : State) (lines : List (List ℕ)) → AllAsk lang is_query line state lines
    → state_after (meaning lang) line state lines ≡ state
queries_stay lang line state [] h = refl
queries_stay lang line state (l ∷ ls) h = queries_stay lang (line + 1) (answer lang line state l).state ls h.1 ∙ query_stays lang line state l h.0

module _ (lang : Language) (line : ℕ) (state after : State) (lines : List (List ℕ)) (x : List ℕ) (more : List (List ℕ)) (is : lines ≡ x ∷ more)
    (leads : (answer lang line state x).state ≡ after) where
  pub all_first : (test : Request → Bool) → AllAsk lang test line state lines → AsksOnly lang test line state x
  all_first test h = (subst (λ (ls : List (List ℕ)). AllAsk lang test line state ls) is h).0

  pub all_rest : (test : Request → Bool) → AllAsk lang test line state lines → AllAsk lang test (line + 1) after more
  all_rest test h = subst (λ (s : State). AllAsk lang test (line + 1) s more) leads (subst (λ (ls : List (List ℕ)). AllAsk lang test line state ls) is h).1

  pub state_rest : state_after (meaning lang) (line + 1) after more ≡ state_after (meaning lang) line state lines
  state_rest = ap (λ (s : State). state_after (meaning lang) (line + 1) s more) (sym leads) ∙ ap (state_after (meaning lang) line state) (sym is)

  pub touches_parts : (heads : List Head) (n : ℕ) → TouchesLines lang heads line state lines n
      → (first : ℕ) × (rest : ℕ) × TouchesLine lang heads state x first × TouchesLines lang heads (line + 1) after more rest × (n ≡ first + rest)
  touches_parts heads n h = by (subst (λ (ls : List (List ℕ)). TouchesLines lang heads line state ls n) is h)
    where
      by : TouchesLines lang heads line state (x ∷ more) n
          → (first : ℕ) × (rest : ℕ) × TouchesLine lang heads state x first × TouchesLines lang heads (line + 1) after more rest × (n ≡ first + rest)
      by (first, rest, one, others, sum) = (first, rest, one, subst (λ (s : State). TouchesLines lang heads (line + 1) s more rest) leads others, sum)
