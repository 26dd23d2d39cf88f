-- How the votes of up to 15 replicas lie in a row of 15.
use Rattle.std.specs.Prelude.{◌≡◌, ◌-◌, ◌≤◌, ◌++◌, length, replicate, take}
use Rattle.std.proofs.Common.{sym, ap, ◌∙◌}
use Rattle.std.proofs.lemmas.List.{length-take-le}
use Rattle.quorum.specs.Quorums.{Quorums, IsLawful}
use Rattle.quorum.specs.declared.quorums.Quorums.TheInside.{Inside}

-- the row has the votes of the replicas, which keep the rules, and then 0
pub record IsStored (q : Inside) : Type 0 where
  pub lawful : IsLawful (record { votes = take q.replicas q.votes; ask = q.ask; put = q.put })
  pub fits : q.replicas ≤ length q.votes
  pub padded : q.votes ≡ take q.replicas q.votes ++ replicate (15 - q.replicas) 0

-- a list of votes as a row
abbrev pub row_of : Quorums → Inside
row_of quorums = record {
  replicas = length quorums.votes;
  votes = quorums.votes ++ replicate (15 - length quorums.votes) 0;
  ask = quorums.ask;
  put = quorums.put;
}

pub same_votes : (q : Inside) → IsStored q
    → row_of (record { votes = take q.replicas q.votes; ask = q.ask; put = q.put }) ≡ q
same_votes q h =
    let count : length (take q.replicas q.votes) ≡ q.replicas =
    length-take-le q.replicas q.votes h.fits in
    let votes : take q.replicas q.votes ++ replicate (15 - length (take q.replicas q.votes)) 0
    ≡ q.votes = ap (λ k. take q.replicas q.votes ++ replicate (15 - k) 0) count
    ∙ sym h.padded in
    λ i. record { replicas = count i; votes = votes i; ask = q.ask; put = q.put }
