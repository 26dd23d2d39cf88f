-- The names that joined stay those of the clients.
use Rattle.std.proofs.Common.{◌≡◌, ℕ, length, Option, None, Some, sym, ◌∙◌, ap, inl, inr, slice_get}
use Rattle.std.specs.FinMap as finite
use Rattle.tag.proofs.Lists.{push_cases, slice_get-push_last, slice_get-push_left}
use Rattle.client_phases.specs.declared.clients.Client.{Client}
use Rattle.world_steps.specs.Clients.{Members, with_client, with_member}
use Rattle.world_steps.specs.SoundSystems.{AreNamed}
use Rattle.network.proofs.Lookups.{get_cases}

module _ (members : Members) (named : AreNamed members) (name : ℕ) where
  -- ---- a client becomes another
  pub named_insert : (old new : Client) → finite.get members.clients name ≡ Some old → AreNamed (with_client members name new)
  named_insert old new is = record {
    joined = λ place d at.
        elim (get_cases members.clients name new d) [
          | inl here ↦ (new, here.1)
          | inr there ↦ let (client, was) = named.joined place d at in (client, there.1 ∙ was)
        ];
    listed = λ d client e.
        elim (get_cases members.clients name new d) [
          | inl here ↦ let (place, at) = named.listed name old is in (place, at ∙ ap Some (sym here.0))
          | inr there ↦ named.listed d client (sym there.1 ∙ e)
        ];
    once = named.once;
  }

  -- ---- a client joins
  -- a name without a client isn't among those that joined
  pub not_joined : finite.get members.clients name ≡ None → (place : ℕ) → slice_get members.joined place ≡ Some name → ⊥
  not_joined none place at =
      let (client, was) = named.joined place name at in
      let e : ◌≡◌ {A = Option Client} None (Some client) = sym none ∙ was in
      absurd cc

  pub named_push : (new : Client) → finite.get members.clients name ≡ None → AreNamed (with_member members name new)
  named_push new none = record {
    joined = λ place d at.
        elim (get_cases members.clients name new d) [
          | inl here ↦ (new, here.1)
          | inr there ↦
              elim (push_cases members.joined name place d at) [
                | inl old ↦ let (client, was) = named.joined place d old in (client, there.1 ∙ was)
                | inr last ↦ absurd (there.0 (sym last.1))
              ]
        ];
    listed = λ d client e.
        elim (get_cases members.clients name new d) [
          | inl here ↦ (length members.joined, slice_get-push_last members.joined name ∙ ap Some (sym here.0))
          | inr there ↦ let (place, at) = named.listed d client (sym there.1 ∙ e) in (place, slice_get-push_left members.joined name place d at)
        ];
    once = λ p q d i j.
        elim (push_cases members.joined name p d i) [
          | inl old ↦ elim (push_cases members.joined name q d j) [
            | inl older ↦ named.once p q d old older
            | inr last ↦ absurd (not_joined none p (old ∙ ap Some (sym last.1)))
          ]
          | inr new_p ↦ elim (push_cases members.joined name q d j) [
            | inl old ↦ absurd (not_joined none q (old ∙ ap Some (sym new_p.1)))
            | inr new_q ↦ new_p.0 ∙ sym new_q.0
          ]
        ];
  }
