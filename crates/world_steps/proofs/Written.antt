-- A client, written where it stands among the clients by name.
use Rattle.std.proofs.Common.{◌≡◌, ℕ, List, [], ◌∷◌, ◌++◌, Some, None, IsSome, ap, sym, subst, ◌∙◌, unwrap_or, rules}
use Rattle.std.specs.Ordering.{nat_cmp}
use Rattle.std.specs.Cmp.{nat_cmp_total}
use Rattle.std.specs.BTreeMap.{BTreeMap, WritesThrough, Updates, get}
use Rattle.std.specs.FinMap as finite
use Rattle.std.specs.FinMap.{nat_cmp-IsAntisymmetric}
use Rattle.client_phases.specs.declared.clients.Client.{Client}
use Rattle.replica.proofs.Maps.{get-from_tree, from_tree-insert, from_tree-written}
use Rattle.world_steps.specs.Clients.{Clients, Members, with_client, with_member}

abbrev pub Tree : Type 0
Tree = BTreeMap ℕ Client

abbrev pub clients_in : Tree → Clients
clients_in tree = finite.from_entries tree.entries

-- the client that the tree has is the one that the map has
pub same_client : (tree : Tree) (name : ℕ) (held client : Client) → Some held ≡ get nat_cmp tree name → finite.get (clients_in tree) name ≡ Some client → held ≡ client
same_client tree name held client found is = ap (λ o. unwrap_or o held) (found ∙ sym (get-from_tree nat_cmp_total tree name) ∙ is)

pub found_client : (tree : Tree) (name : ℕ) (held : Client) → Some held ≡ get nat_cmp tree name → finite.get (clients_in tree) name ≡ Some held
found_client tree name held found = get-from_tree nat_cmp_total tree name ∙ sym found

-- where the tree has none, nor has the map
pub no_client : (tree : Tree) (name : ℕ) (client : Client) → None ≡ get nat_cmp tree name → finite.get (clients_in tree) name ≡ Some client → ⊥
no_client tree name client missed is =
    let both : None ≡ Some client = missed ∙ sym (get-from_tree nat_cmp_total tree name) ∙ is in
    cc

pub written : (joined : List ℕ) (old new : Tree) (name : ℕ) (held client next : Client) (after : Client → Client)
    → Some held ≡ get nat_cmp old name → finite.get (clients_in old) name ≡ Some client
    → WritesThrough nat_cmp (nat_cmp name) old next new → next ≡ after held
    → ◌≡◌ {A = Members} (record { joined = joined; clients = clients_in new }) (with_client (record { joined = joined; clients = clients_in old }) name (after client))
written joined old new name held client next after found is writes e =
    let same : held ≡ client = same_client old name held client found is in
    let after_is : next ≡ after client = e ∙ ap after same in
    let map : clients_in new ≡ finite.insert (clients_in old) name next = from_tree-written nat_cmp_total nat_cmp-IsAntisymmetric old new name next writes (subst IsSome found (search rules)) in
    ap (λ (m : Clients). let r : Members = record { joined = joined; clients = m } in r) (map ∙ ap (finite.insert (clients_in old) name) after_is)

-- a further client, after all others
pub added : (joined items : List ℕ) (old new : Tree) (name : ℕ) (client : Client) → items ≡ joined ++ name ∷ [] → Updates nat_cmp old new name (Some client)
    → ◌≡◌ {A = Members} (record { joined = items; clients = clients_in new }) (with_member (record { joined = joined; clients = clients_in old }) name client)
added joined items old new name client e updates =
    let map : clients_in new ≡ finite.insert (clients_in old) name client = from_tree-insert nat_cmp_total nat_cmp-IsAntisymmetric old new name client updates in
    λ i. record { joined = e i; clients = map i }
