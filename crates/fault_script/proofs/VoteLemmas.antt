-- The test of the rules for votes says what the rules say.
use Rattle.std.proofs.Common.{ℕ, ◌≤◌, ◌+◌, ◌&&◌, List, length, sum, nat_le, refl}
use Rattle.std.specs.Prelude.{All}
use Rattle.std.specs.Bool.{Decides}
use Rattle.std.specs.List.{list_all}
use Rattle.std.proofs.lemmas.Bool.{leb-true, le-leb}
use Rattle.std.proofs.lemmas.Bool.Decides.{Decides-and, Decides-by_and, Decides-ltb}
use Rattle.quorum.specs.Quorums.{Quorums, IsLawful}
use Rattle.fault_script.specs.Settings.{is_lawful}
use Rattle.fault_script.proofs.NumberLemmas.{range_decides}

le_decides : (a b : ℕ) → Decides (nat_le a b) (a ≤ b)
le_decides a b = (leb-true a b, le-leb a b)

each_decides : (votes : List ℕ) → Decides (list_all (λ v. nat_le 1 v && nat_le v 9) votes) (All (λ v. (1 ≤ v) × (v ≤ 9)) votes)
each_decides votes = Decides-by_and (λ v. nat_le 1 v && nat_le v 9) (λ v. (1 ≤ v) × (v ≤ 9)) (list_all (λ v. nat_le 1 v && nat_le v 9))
    (range_decides 1 9) refl (λ _ _. refl) votes

pub lawful_decides : (q : Quorums) → Decides (is_lawful q) (IsLawful q)
lawful_decides q =
    let a = le_decides 1 (length q.votes) in
    let b = Decides-and _ _ a (le_decides (length q.votes) 15) in
    let d = Decides-and _ _ b (each_decides q.votes) in
    let e = Decides-and _ _ d (le_decides 1 q.ask) in
    let f = Decides-and _ _ e (le_decides q.ask (sum q.votes)) in
    let g = Decides-and _ _ f (le_decides 1 q.put) in
    let h = Decides-and _ _ g (le_decides q.put (sum q.votes)) in
    let all = Decides-and _ _ h (Decides-ltb (sum q.votes) (q.ask + q.put)) in (
      λ e. let w = all.0 e in record {
        some_replica = w.0.0.0.0.0.0.0;
        most_replicas = w.0.0.0.0.0.0.1;
        each_votes = w.0.0.0.0.0.1;
        some_ask = w.0.0.0.0.1;
        most_ask = w.0.0.0.1;
        some_put = w.0.0.1;
        most_put = w.0.1;
        overlap = w.1;
      },
      λ l. all.1 (((((((l.some_replica, l.most_replicas), l.each_votes), l.some_ask), l.most_ask), l.some_put), l.most_put), l.overlap),
    )
