-- A system before its first step is sound.
use Rattle.std.proofs.Common.{◌≡◌, ℕ, zero, suc, ◌≤◌, unwrap_or, true, inl, inr, length, length-append, List, [], ◌∷◌, Option, None, Some, refl, sym, ◌∙◌, ap, arith, slice_get}
use Rattle.std.specs.Cmp.Lexicographic.{slice_cmp}
use Rattle.std.specs.FinMap as finite
use Rattle.std.specs.Ordering.{nat_cmp}
use Rattle.tag.proofs.Lists.{push_cases}
use Rattle.quorum.specs.Quorums.{IsLawful}
use Rattle.replica.specs.Pairs.{no_pair, pair_of}
use Rattle.network.specs.declared.flights.Flight.{Flight}
use Rattle.network.specs.declared.messages.Message.{Message}
use Rattle.client_phases.specs.declared.clients.Client.{Client}
use Rattle.world_steps.specs.Configs.{Config}
use Rattle.world_steps.specs.Nodes.{nodes_below}
use Rattle.world_steps.specs.Sound.IsGood.{Unwritten}
use Rattle.world_steps.specs.SoundSystems.{Flies, IsSound, held_in, pair_in}
use Rattle.world_steps.specs.Systems.{opening}
use Rattle.world_steps.specs.declared.nodes.Node.{Node}

-- ---- the replicas as they begin
abbrev first_node : ℕ → Node
first_node n = record { replica = record { number = n; pairs = finite.empty }; is_up = true }

nodes_length : (n : ℕ) → length (nodes_below n) ≡ n
nodes_length zero = refl
nodes_length (suc n) = length-append (nodes_below n) (first_node n ∷ []) ∙ omega (arith, nodes_length n)

pub node_below : (n number : ℕ) (node : Node) → slice_get (nodes_below n) number ≡ Some node → node ≡ first_node number
node_below zero number node e = absurd cc
node_below (suc n) number node e =
    elim (push_cases (nodes_below n) (first_node n) number node e) [
      | inl old ↦ node_below n number node old
      | inr last ↦ sym last.1 ∙ ap first_node (sym (last.0 ∙ nodes_length n))
    ]

held_by : (found : Option Node) (key : List ℕ) → ((node : Node) → found ≡ Some node → (n : ℕ) × (node ≡ first_node n)) → pair_in found key ≡ no_pair
held_by None key first = refl
held_by (Some node) key first =
    let (n, is) = first node refl in
    ap (λ (x : Node). pair_of x.replica.pairs key) is ∙ ap (λ o. unwrap_or o no_pair) (finite.get-empty (slice_cmp nat_cmp) key)

nothing_held : (config : Config) (number : ℕ) (key : List ℕ) → held_in (opening config).nodes number key ≡ no_pair
nothing_held config number key =
    held_by (slice_get (opening config).nodes number) key (λ node e. (number, node_below (length config.quorums.votes) number node e))

nothing_flies : (message : Message) → Flies finite.empty message → ⊥
nothing_flies message f = let e : ◌≡◌ {A = Option Flight} None (Some (record { message = message; copies = f.copies })) = sym (finite.get-empty nat_cmp f.number) ∙ f.is in absurd cc

nobody_there : (name : ℕ) (client : Client) → finite.get {R = nat_cmp} finite.empty name ≡ Some client → ⊥
nobody_there name client is = let e : ◌≡◌ {A = Option Client} None (Some client) = sym (finite.get-empty nat_cmp name) ∙ is in absurd cc

pub opening_sound : (config : Config) → IsLawful config.quorums → config.calls ≤ 1000000 → IsSound (opening config)
opening_sound config lawful calls = record {
  sound = record {
    lawful = lawful;
    recorded = record {
      once = λ p q op c d k l a b i j. absurd cc;
      fresh = λ p op c k a i. absurd cc;
      noted_once = λ p q op t u i j. absurd cc;
      noted_known = λ p op t i. absurd cc;
      sequential = λ p q o u c k l a b i j before. absurd cc;
      rising = λ s p q o u c d returned k a b t v m n i j l before im in1. absurd cc;
      own = λ p n o c k value t i j. absurd cc;
      bounded = λ p o t i. absurd cc;
      written = λ p n o c k a t i j. absurd cc;
      counted = λ p n o c k value t i j. absurd cc;
      answered = λ s o returned i. absurd cc;
    };
    pairs = λ number key. Unwritten (nothing_held config number key);
    messages = λ message f. absurd (nothing_flies message f);
    states = λ name state i. absurd (nobody_there name (record { rules = i.rules; state = state }) i.is);
    joined = λ p op client key action i. absurd cc;
    completed = λ s p n op client returned key action tag i j l. absurd cc;
  };
  ruled = λ name client is. absurd (nobody_there name client is);
  waiting = λ name client is. absurd (nobody_there name client is);
  numbered = λ number node is. ap (λ (x : Node). x.replica.number) (node_below (length config.quorums.votes) number node is);
  to_replicas = λ number request f. absurd (nothing_flies _ f);
  to_clients = λ name reply f. absurd (nothing_flies _ f);
  calls = omega arith;
  limit = calls;
  named = record {
    joined = λ place name is. absurd cc;
    listed = λ name client is. absurd (nobody_there name client is);
    once = λ p q name i j. absurd cc;
  };
  configured = record { replicas = nodes_length (length config.quorums.votes); flights = refl; calls = refl };
}
