-- Each end of a kept write has its owner, in slots and maps.
use Rattle.monitored_key.specs.declared.writes.Writes.{Writes}
use Rattle.monitored_key.specs.Indexed.{owner_in, write_in}
use Rattle.monitored_key.specs.Indexes.{AreOwned}
use Rattle.monitored_key.specs.WritesOf.{AreFit, kept_of, owner_of, rest_of, rest_owner}
use Rattle.monitored_key.specs.Maps.{entry_at}
use Rattle.monitored_key.proofs.Front.{owned_beside}

mapped_owned : (w : Writes) → AreFit w → AreOwned (write_in w.more) (owner_in w.more)
mapped_owned w fit = record { owned = fit.mapped.owned; owner = fit.mapped.owner }

pub rest_owned : (w : Writes) → AreFit w → AreOwned (entry_at (rest_of w)) (rest_owner w)
rest_owned w fit = owned_beside w.second w.more.by_number.entries (owner_in w.more) (mapped_owned w fit) fit.second

pub owned_of : (w : Writes) → AreFit w → AreOwned (kept_of w) (owner_of w)
owned_of w fit = owned_beside w.first (rest_of w) (rest_owner w) (rest_owned w fit) fit.first
