-- What reads of 4,096 bytes say of a file.
use Rattle.std.proofs.Common.{◌≡◌, ℕ, ◌+◌, ◌*◌, List, ◌++◌, Option, length, min, take, drop, sym, ap, ◌∙◌, arith, length-take}
use Rattle.std.proofs.lemmas.List.{take_min}
use Rattle.std.proofs.Math.Seq.{take-add, take-append_seam}
use Rattle.outer_io.specs.Files.{bytes_of, IsReadAt}

-- what one read brought is the part of the file from there on, a page at most
pub part_read : (file : Option (List ℕ)) (at count : ℕ) (old new : List ℕ) → length old ≡ 4096 → IsReadAt file at count old new
    → take count new ≡ take 4096 (drop at (bytes_of file))
part_read file at count old new len read =
    let rest : List ℕ = drop at (bytes_of file) in
    let counted : count ≡ min 4096 (length rest) = read.counted ∙ ap (λ n. min n (length rest)) len in
    let long : length (take count rest) ≡ count = length-take count rest ∙ omega (arith, counted) in
    ap (take count) read.filled
    ∙ ap (λ n. take n (take count rest ++ drop count old)) (sym long)
    ∙ take-append_seam (take count rest) (drop count old)
    ∙ ap (λ n. take n rest) counted
    ∙ take_min 4096 rest

-- one page more is read behind those before it
pub parts_read : (file before now : List ℕ) (page : ℕ) → before ≡ take (4096 * page) file → now ≡ before ++ take 4096 (drop (4096 * page) file)
    → now ≡ take (4096 * (page + 1)) file
parts_read file before now page so more =
    let next : 4096 * (page + 1) ≡ 4096 * page + 4096 = omega arith in
    more ∙ ap (λ xs. xs ++ take 4096 (drop (4096 * page) file)) so ∙ sym (take-add (4096 * page) 4096 file) ∙ ap (λ n. take n file) (sym next)
