use Rattle.std.proofs.Common.{ℕ, suc, ◌≡◌, ◌<◌, ◌+◌, ◌∷◌, [], ◌++◌, List, Ok, length, take, set, refl, sym, ap, ◌∙◌, subst, arith, rules}
use Rattle.std.proofs.lemmas.Result.{err_from_is_err_and}
use Rattle.std.proofs.lemmas.List.{take_more_set}
use Rattle.std.proofs.Math.ListN.{length-set}
use Rattle.fault_script.specs.Words.{words}
use Rattle.fault_script.specs.Settings.{vote_count, numbers_in}
use Rattle.fault_script.proofs.VoteRows.{numbers-zero, numbers_more, numbers_stop}
use Rattle.fault_script.proofs.parse_setting.numbers_in.Goals as goal

pub loop-place-init : goal.loop-place-init
loop-place-init c = (search rules, record { read = numbers-zero (words c.args.args.now); room = refl })

step : (n : ℕ) → n + 1 ≡ suc n
step n = omega arith

pub loop-place-preserved : goal.loop-place-preserved
loop-place-preserved c =
    let n = c.loop-place.place in
    let votes = c.loop-place.votes in
    let room : n < length votes =
    omega (arith, c.loop-place.invariant.1.room, c.loop-place-test.true, c.from-place-end.ensures, c.requires) in
    let row : take (n + 1) (set votes n c.vote_count.result) ≡ take n votes ++ vote_count c.in_ok-number.number ∷ [] =
    take_more_set votes n c.vote_count.result room ∙ ap (λ (v : ℕ). take n votes ++ v ∷ []) c.vote_count.ensures in
    let more = numbers_more n (words c.args.args.now) (words c.loop-place.behind.now) (words c.in_ok-number.others.now) (take n votes)
    c.in_ok-number.number c.loop-place.invariant.1.read c.in_ok-number.ensures.number in
    let P : ℕ → Type 0 = λ k. numbers_in k (words c.args.args.now)
    ≡ Ok (take (n + 1) (set votes n c.vote_count.result), words c.in_ok-number.others.now) in
    let Q : List ℕ → Type 0 = λ vs. numbers_in (suc n) (words c.args.args.now) ≡ Ok (vs, words c.in_ok-number.others.now) in (
      search rules,
      record {
        read = subst P (sym (step n)) (subst Q (sym row) more);
        room = length-set votes n c.vote_count.result ∙ c.loop-place.invariant.1.room;
      },
    )

pub returns-in_err-number : goal.returns-in_err-number
returns-in_err-number c =
    let p = err_from_is_err_and c.from_residual.result c.from_residual.ensures.1 in
    let lt : c.loop-place.place < c.args.count = omega (arith, c.loop-place-test.true, c.from-place-end.ensures) in
    rw (p.1, p.2) (numbers_stop c.in_err-number.field-0.0 c.loop-place.place c.args.count (words c.args.args.now)
    (words c.loop-place.behind.now) (take c.loop-place.place c.loop-place.votes) lt c.loop-place.invariant.1.read
    c.in_err-number.ensures.number)

pub returns : goal.returns
returns c =
    let all : c.loop-place.place ≡ c.args.count = omega arith in
    let P : ℕ → Type 0 = λ k. numbers_in k (words c.args.args.now) ≡ Ok (take k c.loop-place.votes, words c.loop-place.behind.now) in
    subst P all c.loop-place.invariant.1.read
