-- A replica, and what it makes of a request (Attiya, Bar-Noy and Dolev 1995).
use Rattle.std.specs.Prelude.{ℕ, ◌≡◌, false, None}
use Rattle.std.specs.Ordering.{is_lt}
use Rattle.tag.specs.Tags.{tag_cmp}
use Rattle.replica.specs.Pairs.{Pairs, pair_of, adopt}
use Rattle.replica.specs.declared.requests.Request.{Request}
use Rattle.replica.specs.declared.requests.Request.TheVariants.{Query, Put}
use Rattle.replica.specs.declared.replies.Reply.{Reply}
use Rattle.replica.specs.declared.replies.Reply.TheVariants.{Held, Kept}

-- a replica: its number, and its pair of each key
pub record Replica : Type 0 where
  pub number : ℕ
  pub pairs : Pairs

-- the pairs after a request: a query changes nothing, a put has its pair adopted if its tag is
-- above the key's own
abbrev pub pairs_after : Pairs → Request → Pairs
pairs_after pairs (Query op key) = pairs
pairs_after pairs (Put op key tag value) = adopt pairs key (record { tag = tag; value = value })

-- the replica after a request
abbrev pub replica_after : Replica → Request → Replica
replica_after replica request = record replica { pairs = pairs_after replica.pairs request }

-- what a replica answers to a request: to a query its pair of the key, to a put that it keeps one
-- with at least that tag
abbrev pub reply_of : Replica → Request → Reply
reply_of replica (Query op key) =
    Held op replica.number (pair_of replica.pairs key).tag (pair_of replica.pairs key).value
reply_of replica (Put op key tag value) = Kept op replica.number

-- a request that is answered without memory: a query of a key that is absent, a put that isn't
-- adopted
abbrev pub TakesNoMemory : Pairs → Request → Type 0
TakesNoMemory pairs (Query op key) = (pair_of pairs key).value ≡ None
TakesNoMemory pairs (Put op key tag value) = is_lt (tag_cmp (pair_of pairs key).tag tag) ≡ false
