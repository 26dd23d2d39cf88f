-- The quorums of a majority keep the rules.
use Rattle.std.proofs.Common.{◌≡◌, ℕ, ◌+◌, ◌-◌, ◌*◌, ◌/◌, ◌≤◌, ◌++◌, ◌∙◌, List, length, take, replicate, sum, sym, ap, subst, arith, length-append}
use Rattle.std.proofs.lemmas.List.{take-replicate, take-append-le, length-replicate}
use Rattle.std.proofs.lemmas.List.Elements.{All-replicate}
use Rattle.std.proofs.lemmas.List.Folds.{sum_by-replicate}
use Rattle.quorum.specs.Quorums.{Quorums, IsLawful}
use Rattle.quorum.specs.Padding.{IsStored}

abbrev ones : ℕ → List ℕ
ones n = replicate n 1

abbrev zeros : ℕ → List ℕ
zeros n = replicate n 0

-- the row as the code makes it
abbrev pub made : ℕ → List ℕ
made n = take n (ones 15) ++ zeros (15 - length (take n (ones 15)))

made-is : (n : ℕ) → n ≤ 15 → made n ≡ ones n ++ zeros (15 - n)
made-is n h =
    let front : take n (ones 15) ≡ ones n = take-replicate n 15 1 h in
    ap (λ xs. xs ++ zeros (15 - length xs)) front ∙ ap (λ k. ones n ++ zeros (15 - k)) (length-replicate n 1)

front-is : (n : ℕ) (row : List ℕ) → row ≡ ones n ++ zeros (15 - n) → take n row ≡ ones n
front-is n row is =
    let count : length (ones n) ≡ n = length-replicate n 1 in
    ap (take n) is ∙ take-append-le n (ones n) (zeros (15 - n)) (omega arith) ∙ take-replicate n n 1 (omega arith)

pub lawful : (n : ℕ) → 1 ≤ n → n ≤ 15 → IsLawful (record { votes = ones n; ask = n / 2 + 1; put = n / 2 + 1 })
lawful n least most =
    let count : length (ones n) ≡ n = length-replicate n 1 in
    let total : sum (ones n) ≡ n * 1 = sum_by-replicate (λ x. x) n 1 in
    record {
      some_replica = omega arith;
      most_replicas = omega arith;
      each_votes = All-replicate (λ v. (1 ≤ v) × (v ≤ 9)) n 1 (omega arith, omega arith);
      some_ask = omega arith;
      most_ask = omega arith;
      some_put = omega arith;
      most_put = omega arith;
      overlap = omega arith;
    }

pub majority_stored : (n m : ℕ) (row : List ℕ) → 1 ≤ n → n ≤ 15 → m ≡ n → row ≡ made m → IsStored (record { replicas = m; votes = row; ask = m / 2 + 1; put = m / 2 + 1 })
majority_stored n m row least most same is =
    let row_is : row ≡ ones m ++ zeros (15 - m) = is ∙ made-is m (omega arith) in
    let front : take m row ≡ ones m = front-is m row row_is in
    let count : length (ones m) ≡ m = length-replicate m 1 in
    let whole : length row ≡ length (ones m ++ zeros (15 - m)) = ap length row_is in
    record {
      lawful = subst (λ v. IsLawful (record { votes = v; ask = m / 2 + 1; put = m / 2 + 1 })) (sym front) (lawful m (omega arith) (omega arith));
      fits = omega (arith, length-append (ones m) (zeros (15 - m)));
      padded = row_is ∙ ap (λ xs. xs ++ zeros (15 - m)) (sym front);
    }

pub majority_view : (n m : ℕ) (row : List ℕ) → 1 ≤ n → n ≤ 15 → m ≡ n → row ≡ made m → ◌≡◌ {A = Quorums} (record { votes = take m row; ask = m / 2 + 1; put = m / 2 + 1 }) (record { votes = ones n; ask = n / 2 + 1; put = n / 2 + 1 })
majority_view n m row least most same is =
    let row_is : row ≡ ones m ++ zeros (15 - m) = is ∙ made-is m (omega arith) in
    let votes : take m row ≡ ones n = front-is m row row_is ∙ ap ones same in
    λ i. record { votes = votes i; ask = same i / 2 + 1; put = same i / 2 + 1 }
