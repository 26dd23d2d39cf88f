-- The clients that joined.
use Rattle.std.specs.Prelude.{ℕ, ◌+◌, Bool, true, false, cond, List, [], ◌∷◌, ◌++◌, Option, None}
use Rattle.std.specs.Prelude.{Some}
use Rattle.std.specs.Ordering.{nat_cmp}
use Rattle.std.specs.FinMap as finite
use Rattle.client_phases.specs.Clients.{phase_of}
use Rattle.client_phases.specs.declared.clients.Client.{Client}
use Rattle.client_phases.specs.declared.outcomes.Phase.{Phase}
use Rattle.client_phases.specs.declared.outcomes.Phase.TheVariants as phase

-- a finite map from names to clients
abbrev pub Clients : Type 0
Clients = finite.FinMap nat_cmp Client

-- the names in the order in which they joined, and the client of each
pub record Members : Type 0 where
  pub joined : List ℕ
  pub clients : Clients

-- a further client joined
abbrev pub with_member : Members → ℕ → Client → Members
with_member members name client = record {
  joined = members.joined ++ name ∷ [];
  clients = finite.insert members.clients name client;
}

-- the client of a name becomes another
abbrev pub with_client : Members → ℕ → Client → Members
with_client members name client =
    record members { clients = finite.insert members.clients name client }

-- a client in that phase isn't stopped
abbrev goes_on : Phase → Bool
goes_on phase.Stopped = false
goes_on other = true

-- there is a client, and it isn't stopped
abbrev pub is_running : Option Client → Bool
is_running (Some client) = goes_on (phase_of client)
is_running None = false

-- how many of these names are those of clients that aren't stopped
abbrev pub running_among : Clients → List ℕ → ℕ
running_among clients [] = 0
running_among clients (name ∷ names) =
    cond (is_running (finite.get clients name)) 1 0 + running_among clients names

-- how many clients joined and aren't stopped
abbrev pub running_count : Members → ℕ
running_count members = running_among members.clients members.joined
