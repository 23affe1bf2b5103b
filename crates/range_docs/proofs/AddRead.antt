-- What a line that adds a document of ranges reads.
use Rattle.std.proofs.Common.{◌≡◌, ℕ, Bool, true, false, cond, List, Result, Ok, Err, ℤ, sym, ap, ◌∙◌}
use Rattle.std.specs.List.{list_all}
use Rattle.point_codec.specs.Points.{ordered_points}
use Rattle.script_lang.specs.Requests as asks
use Rattle.script_lang.specs.Reading.{Reading, Says, document_of, on_success, read_add}
use Rattle.script_lang.specs.declared.faults.LineFault.{LineFault}
use Rattle.range_docs.specs.Ranges.{range_of, is_range}
use Rattle.range_docs.specs.Reading.{Asks, if_ranges}
use Rattle.range_docs.specs.Seen.{request_in}
use Rattle.range_docs.specs.declared.faults.RangeFault.TheVariants as fault

module _ (dims r place : ℕ) (words : List (List ℕ)) (ps points seen : List (List ℤ)) (all : Bool) (second : place ≡ 2)
    (read : document_of dims place words ≡ Ok ps) (order : points ≡ ordered_points ps) (same : seen ≡ points)
    (told : all ≡ list_all (λ p. is_range (range_of r p)) seen) where
  points_read : read_add dims words ≡ Says (asks.Add points)
  unfolding read_add
  points_read =
      let adds : List (List ℤ) → Reading = λ ps. Says (asks.Add (ordered_points ps)) in
      ap (λ (n : ℕ). on_success (document_of dims n words) adds) (sym second)
      ∙ ap (λ (d : Result (List (List ℤ)) LineFault). on_success d adds) read
      ∙ ap (λ (qs : List (List ℤ)). Says (asks.Add qs)) (sym order)

  as_told : request_in (if_ranges r (read_add dims words)) ≡ request_in (cond all (Ok (Asks (asks.Add points))) (Err fault.NotRange))
  as_told =
      let is : list_all (λ p. is_range (range_of r p)) points ≡ all =
      ap (λ (qs : List (List ℤ)). list_all (λ p. is_range (range_of r p)) qs) (sym same) ∙ sym told in
      ap (λ (said : Reading). request_in (if_ranges r said)) points_read
      ∙ ap (λ (t : Bool). request_in (cond t (Ok (Asks (asks.Add points))) (Err fault.NotRange))) is

  -- where each point is a range they are added
  pub ranges_added : all ≡ true → request_in (if_ranges r (read_add dims words)) ≡ Ok (asks.Add points)
  ranges_added are = as_told ∙ ap (λ (t : Bool). request_in (cond t (Ok (Asks (asks.Add points))) (Err fault.NotRange))) are

  pub no_ranges : all ≡ false → request_in (if_ranges r (read_add dims words)) ≡ Err fault.NotRange
  no_ranges wrong = as_told ∙ ap (λ (t : Bool). request_in (cond t (Ok (Asks (asks.Add points))) (Err fault.NotRange))) wrong
