-- The maps of kept writes still say the same after a change.
use Rattle.std.proofs.Common.{ℕ, ◌≡◌, ◌≢◌, ◌⊎◌, inl, inr, List, Option, Some, None, ap, sym, subst, ◌∙◌}
use Rattle.std.proofs.lemmas.Bool.{both_ways, cases_Bool, cases_eq}
use Rattle.std.proofs.lemmas.Option.{none-some, same_Some}
use Rattle.std.proofs.lemmas.Slice.Eq.{bytes_eq-Decides}
use Rattle.std.specs.Str.{bytes_eq}
use Rattle.kept_writers.specs.Candidates.{begin_at}
use Rattle.kept_writers.specs.Ends.{number_at}
use Rattle.kept_writers.specs.Written.{AreNone, AreSome, HasBegin, HasEnd, LacksEnd, Written}
use Rattle.monitored_key.specs.Indexes.{AreIndexed, begun_in, ended_in, written_or_none}
use Rattle.key_monitor.specs.KeptWrites.{KeptWrite}
use Rattle.monitored_key.specs.Maps.{Lacks, Sets}

pub cases_text : (a b : List ℕ) → (a ≡ b) ⊎ (a ≢ b)
cases_text a b = elim (cases_Bool (bytes_eq a b)) [
  | inl e ↦ inl ((bytes_eq-Decides a b).0 e)
  | inr e ↦ inr (λ same. both_ways (bytes_eq a b) e ((bytes_eq-Decides a b).1 same))
]

-- a write without an end
abbrev pub unended : List ℕ → ℕ → KeptWrite
unended value begin = record { value = value; begin = begin; end = None }

-- with that end
abbrev pub with_end : KeptWrite → ℕ → KeptWrite
with_end kept end = record { value = kept.value; begin = kept.begin; end = Some end }

same_unended : (v u : List ℕ) (a b : ℕ) → v ≡ u → a ≡ b → unended v a ≡ unended u b
same_unended v u a b e f = λ i. record { value = e i; begin = f i; end = None }

-- ---- one value's writes become those, and the others stay
module _ (values : List ℕ → Option Written) (text : List ℕ) (new : List ℕ → Option Written) where
  pub record Become (w : Written) : Type 0 where
    pub begins : (n : ℕ) → begun_in new text n ≡ begin_at w.begins n
    pub ends : (e : ℕ) → ended_in new text e ≡ number_at w.ends e
    pub others : (v : List ℕ) → v ≢ text → new v ≡ values v
    pub some : (w' : Written) → new text ≡ Some w' → AreSome w'

  pub by_sets : (w : Written) → AreSome w → Sets values text w new → Become w
  by_sets w is s = record {
    begins = λ n. ap (λ o. begin_at (written_or_none o).begins n) s.here;
    ends = λ e. ap (λ o. number_at (written_or_none o).ends e) s.here;
    others = s.others;
    some = λ w' at. subst AreSome (same_Some w w' (sym s.here ∙ at)) is;
  }

  pub by_lacks : (w : Written) → AreNone w → Lacks values text new → Become w
  by_lacks w none l = record {
    begins = λ n. ap (λ o. begin_at (written_or_none o).begins n) l.here ∙ sym (none.begins n);
    ends = λ e. ap (λ o. number_at (written_or_none o).ends e) l.here ∙ sym (none.ends e);
    others = l.others;
    some = λ w' at. absurd (none-some w' (sym l.here ∙ at));
  }

  module _ (w : Written) (b : Become w) where
    -- what a value has that isn't this one, or is
    pub begun_now : (v : List ℕ) (n : ℕ) → ((v ≡ text) × (begun_in new v n ≡ begin_at w.begins n))
        ⊎ ((v ≢ text) × (begun_in new v n ≡ begun_in values v n))
    begun_now v n = elim (cases_text v text) [
      | inl same ↦ inl (same, ap (λ x. begun_in new x n) same ∙ b.begins n)
      | inr apart ↦ inr (apart, ap (λ o. begin_at (written_or_none o).begins n) (b.others v apart))
    ]

    pub ended_now : (v : List ℕ) (e : ℕ) → ((v ≡ text) × (ended_in new v e ≡ number_at w.ends e))
        ⊎ ((v ≢ text) × (ended_in new v e ≡ ended_in values v e))
    ended_now v e = elim (cases_text v text) [
      | inl same ↦ inl (same, ap (λ x. ended_in new x e) same ∙ b.ends e)
      | inr apart ↦ inr (apart, ap (λ o. number_at (written_or_none o).ends e) (b.others v apart))
    ]

    pub some_now : ((v : List ℕ) (x : Written) → values v ≡ Some x → AreSome x)
        → (v : List ℕ) (x : Written) → new v ≡ Some x → AreSome x
    some_now some v x at = elim (cases_text v text) [
      | inl same ↦ b.some x (ap new (sym same) ∙ at)
      | inr apart ↦ some v x (sym (b.others v apart) ∙ at)
    ]

module _ (writes : ℕ → Option KeptWrite) (values : List ℕ → Option Written) (owners : ℕ → Option ℕ)
    (are : AreIndexed writes values owners) where
  -- ---- a write more
  module _ (number place : ℕ) (text : List ℕ) (free : writes number ≡ None) (w : Written)
      (has : HasBegin (written_or_none (values text)) number place w) (values' : List ℕ → Option Written)
      (b : Become values text values' w) (writes' : ℕ → Option KeptWrite)
      (sets : Sets writes number (unended text place) writes') where
    add_begun : (v : List ℕ) (n : ℕ) → n ≢ number → begun_in values' v n ≡ begun_in values v n
    add_begun v n apart = elim (begun_now values text values' w b v n) [
      | inl s ↦ s.1 ∙ (has.others n apart ∙ ap (λ x. begun_in values x n) (sym s.0))
      | inr o ↦ o.1
    ]

    add_ended : (v : List ℕ) (e : ℕ) → ended_in values' v e ≡ ended_in values v e
    add_ended v e = elim (ended_now values text values' w b v e) [
      | inl s ↦ s.1 ∙ (ap (λ (es : List (ℕ × ℕ)). number_at es e) has.ends ∙ ap (λ x. ended_in values x e) (sym s.0))
      | inr o ↦ o.1
    ]

    -- the write is there, or another
    add_here : (n : ℕ) (kept : KeptWrite) → writes' n ≡ Some kept → n ≡ number → unended text place ≡ kept
    add_here n kept at same = same_Some (unended text place) kept (sym sets.here ∙ (ap writes' (sym same) ∙ at))

    other_than : (n : ℕ) (kept : KeptWrite) → writes n ≡ Some kept → n ≢ number
    other_than n kept at same = none-some kept (sym free ∙ (ap writes (sym same) ∙ at))

    add_is_begun : (v : List ℕ) (n begin : ℕ) → begun_in values' v n ≡ Some begin → writes' n ≡ Some (unended v begin)
    add_is_begun v n begin at = elim (cases_eq n number) [
      | inl same ↦ elim (begun_now values text values' w b v n) [
        | inl s ↦
            let place_is : place ≡ begin = same_Some place begin (sym has.here ∙ (ap (begin_at w.begins) (sym same) ∙ (sym s.1 ∙ at))) in
            ap writes' same ∙ (sets.here ∙ ap Some (same_unended text v place begin (sym s.0) place_is))
        | inr o ↦ absurd (other_than n (unended v begin) (are.is_begun v n begin (sym o.1 ∙ at)) same)
      ]
      | inr apart ↦ sets.others n apart ∙ are.is_begun v n begin (sym (add_begun v n apart) ∙ at)
    ]

    pub indexed_added : AreIndexed writes' values' owners
    indexed_added = record {
      begun = λ n kept at none. elim (cases_eq n number) [
        | inl same ↦ subst (λ (k : KeptWrite). begun_in values' k.value n ≡ Some k.begin) (add_here n kept at same)
            (b.begins n ∙ (ap (begin_at w.begins) same ∙ has.here))
        | inr apart ↦ add_begun kept.value n apart ∙ are.begun n kept (sym (sets.others n apart) ∙ at) none
      ];
      ended = λ n end kept at is. elim (cases_eq n number) [
        | inl same ↦ absurd (none-some end (ap (λ (k : KeptWrite). k.end) (add_here n kept at same) ∙ is))
        | inr apart ↦ add_ended kept.value end ∙ are.ended n end kept (sym (sets.others n apart) ∙ at) is
      ];
      owned = λ n end kept at is. elim (cases_eq n number) [
        | inl same ↦ absurd (none-some end (ap (λ (k : KeptWrite). k.end) (add_here n kept at same) ∙ is))
        | inr apart ↦ are.owned n end kept (sym (sets.others n apart) ∙ at) is
      ];
      is_begun = add_is_begun;
      is_ended = λ v n end at.
          let k = are.is_ended v n end (sym (add_ended v end) ∙ at) in
          (k.0, sets.others n (other_than n k.0 k.1) ∙ k.1, k.2, k.3);
      owner = λ end n at. let k = are.owner end n at in (k.0, sets.others n (other_than n k.0 k.1) ∙ k.1, k.2);
      some = some_now values text values' w b are.some;
    }

  -- ---- a write has its end
  module _ (number place : ℕ) (kept : KeptWrite) (there : writes number ≡ Some kept) (none : kept.end ≡ None)
      (free : owners place ≡ None) (w : Written) (has : HasEnd (written_or_none (values kept.value)) number place w)
      (values' : List ℕ → Option Written) (b : Become values kept.value values' w) (writes' : ℕ → Option KeptWrite)
      (sets : Sets writes number (with_end kept place) writes') (owners' : ℕ → Option ℕ)
      (owns : Sets owners place number owners') where
    end_begun : (v : List ℕ) (n : ℕ) → n ≢ number → begun_in values' v n ≡ begun_in values v n
    end_begun v n apart = elim (begun_now values kept.value values' w b v n) [
      | inl s ↦ s.1 ∙ (has.begins n apart ∙ ap (λ x. begun_in values x n) (sym s.0))
      | inr o ↦ o.1
    ]

    end_ended : (v : List ℕ) (e : ℕ) → e ≢ place → ended_in values' v e ≡ ended_in values v e
    end_ended v e apart = elim (ended_now values kept.value values' w b v e) [
      | inl s ↦ s.1 ∙ (has.others e apart ∙ ap (λ x. ended_in values x e) (sym s.0))
      | inr o ↦ o.1
    ]

    end_here : (n : ℕ) (k : KeptWrite) → writes' n ≡ Some k → n ≡ number → with_end kept place ≡ k
    end_here n k at same = same_Some (with_end kept place) k (sym sets.here ∙ (ap writes' (sym same) ∙ at))

    -- no family had ended there
    not_ended : (n : ℕ) (k : KeptWrite) (e : ℕ) → writes n ≡ Some k → k.end ≡ Some e → e ≢ place
    not_ended n k e at is same = none-some n (sym free ∙ (ap owners (sym same) ∙ are.owned n e k at is))

    -- what has an end is another
    other_ended : (n : ℕ) (k : KeptWrite) (e : ℕ) → writes n ≡ Some k → k.end ≡ Some e → n ≢ number
    other_ended n k e at is same =
        let here : kept ≡ k = same_Some kept k (sym there ∙ (ap writes (sym same) ∙ at)) in
        none-some e (sym none ∙ (ap (λ (x : KeptWrite). x.end) here ∙ is))

    end_is_begun : (v : List ℕ) (n begin : ℕ) → begun_in values' v n ≡ Some begin → writes' n ≡ Some (unended v begin)
    end_is_begun v n begin at = elim (cases_eq n number) [
      | inl same ↦ elim (begun_now values kept.value values' w b v n) [
        | inl s ↦ absurd (none-some begin (sym has.gone ∙ (ap (begin_at w.begins) (sym same) ∙ (sym s.1 ∙ at))))
        | inr o ↦
            let was = are.is_begun v n begin (sym o.1 ∙ at) in
            let here : kept ≡ unended v begin = same_Some kept (unended v begin) (sym there ∙ (ap writes (sym same) ∙ was)) in
            absurd (o.0 (ap (λ (x : KeptWrite). x.value) (sym here)))
      ]
      | inr apart ↦ sets.others n apart ∙ are.is_begun v n begin (sym (end_begun v n apart) ∙ at)
    ]

    end_is_ended : (v : List ℕ) (n end : ℕ) → ended_in values' v end ≡ Some n
        → (k : KeptWrite) × (writes' n ≡ Some k) × (k.value ≡ v) × (k.end ≡ Some end)
    end_is_ended v n end at = elim (cases_eq end place) [
      | inl same ↦ elim (ended_now values kept.value values' w b v end) [
        | inl s ↦
            let n_is : number ≡ n = same_Some number n (sym has.here ∙ (ap (number_at w.ends) (sym same) ∙ (sym s.1 ∙ at))) in
            (with_end kept place, ap writes' (sym n_is) ∙ sets.here, sym s.0, ap Some (sym same))
        | inr o ↦
            let k = are.is_ended v n end (sym o.1 ∙ at) in
            absurd (not_ended n k.0 end k.1 k.3 same)
      ]
      | inr apart ↦
          let k = are.is_ended v n end (sym (end_ended v end apart) ∙ at) in
          (k.0, sets.others n (other_ended n k.0 end k.1 k.3) ∙ k.1, k.2, k.3)
    ]

    end_owner : (end n : ℕ) → owners' end ≡ Some n → (k : KeptWrite) × (writes' n ≡ Some k) × (k.end ≡ Some end)
    end_owner end n at = elim (cases_eq end place) [
      | inl same ↦
          let n_is : number ≡ n = same_Some number n (sym owns.here ∙ (ap owners' (sym same) ∙ at)) in
          (with_end kept place, ap writes' (sym n_is) ∙ sets.here, ap Some (sym same))
      | inr apart ↦
          let k = are.owner end n (sym (owns.others end apart) ∙ at) in
          (k.0, sets.others n (other_ended n k.0 end k.1 k.2) ∙ k.1, k.2)
    ]

    pub indexed_ended : AreIndexed writes' values' owners'
    indexed_ended = record {
      begun = λ n k at open_k. elim (cases_eq n number) [
        | inl same ↦ absurd (none-some place (sym open_k ∙ ap (λ (x : KeptWrite). x.end) (sym (end_here n k at same))))
        | inr apart ↦ end_begun k.value n apart ∙ are.begun n k (sym (sets.others n apart) ∙ at) open_k
      ];
      ended = λ n end k at is. elim (cases_eq n number) [
        | inl same ↦
            let here = end_here n k at same in
            let e_is : place ≡ end = same_Some place end (ap (λ (x : KeptWrite). x.end) here ∙ is) in
            ap (λ (x : KeptWrite). ended_in values' x.value end) (sym here) ∙ (b.ends end ∙ (ap (number_at w.ends) (sym e_is)
            ∙ (has.here ∙ ap Some (sym same))))
        | inr apart ↦
            let was = sym (sets.others n apart) ∙ at in
            end_ended k.value end (not_ended n k end was is) ∙ are.ended n end k was is
      ];
      owned = λ n end k at is. elim (cases_eq n number) [
        | inl same ↦
            let e_is : place ≡ end = same_Some place end (ap (λ (x : KeptWrite). x.end) (end_here n k at same) ∙ is) in
            ap owners' (sym e_is) ∙ (owns.here ∙ ap Some (sym same))
        | inr apart ↦
            let was = sym (sets.others n apart) ∙ at in
            owns.others end (not_ended n k end was is) ∙ are.owned n end k was is
      ];
      is_begun = end_is_begun;
      is_ended = end_is_ended;
      owner = end_owner;
      some = some_now values kept.value values' w b are.some;
    }

  -- ---- a write goes
  module _ (number end : ℕ) (kept : KeptWrite) (there : writes number ≡ Some kept) (is : kept.end ≡ Some end) (w : Written)
      (lacks : LacksEnd (written_or_none (values kept.value)) end w) (values' : List ℕ → Option Written)
      (b : Become values kept.value values' w) (writes' : ℕ → Option KeptWrite) (gone : Lacks writes number writes')
      (owners' : ℕ → Option ℕ) (free : Lacks owners end owners') where
    go_begun : (v : List ℕ) (n : ℕ) → begun_in values' v n ≡ begun_in values v n
    go_begun v n = elim (begun_now values kept.value values' w b v n) [
      | inl s ↦ s.1 ∙ (ap (λ (bs : List (ℕ × ℕ)). begin_at bs n) lacks.begins ∙ ap (λ x. begun_in values x n) (sym s.0))
      | inr o ↦ o.1
    ]

    go_ended : (v : List ℕ) (e : ℕ) → e ≢ end → ended_in values' v e ≡ ended_in values v e
    go_ended v e apart = elim (ended_now values kept.value values' w b v e) [
      | inl s ↦ s.1 ∙ (lacks.others e apart ∙ ap (λ x. ended_in values x e) (sym s.0))
      | inr o ↦ o.1
    ]

    -- what is left is another
    go_other : (n : ℕ) (k : KeptWrite) → writes' n ≡ Some k → n ≢ number
    go_other n k at same = none-some k (sym gone.here ∙ (ap writes' (sym same) ∙ at))

    go_was : (n : ℕ) (k : KeptWrite) → writes' n ≡ Some k → writes n ≡ Some k
    go_was n k at = sym (gone.others n (go_other n k at)) ∙ at

    -- of another end
    go_apart : (n : ℕ) (k : KeptWrite) (e : ℕ) → writes' n ≡ Some k → k.end ≡ Some e → e ≢ end
    go_apart n k e at ends same =
        go_other n k at (same_Some n number (sym (are.owned n e k (go_was n k at) ends)
        ∙ (ap owners same ∙ are.owned number end kept there is)))

    -- a write of another end, or without one, stays
    go_stays : (n : ℕ) (k : KeptWrite) → writes n ≡ Some k → (k.end ≢ Some end) → writes' n ≡ Some k
    go_stays n k at apart =
        gone.others n (λ same. apart (ap (λ (x : KeptWrite). x.end) (same_Some k kept (sym at ∙ (ap writes same ∙ there))) ∙ is)) ∙ at

    go_is_ended : (v : List ℕ) (n e : ℕ) → ended_in values' v e ≡ Some n
        → (k : KeptWrite) × (writes' n ≡ Some k) × (k.value ≡ v) × (k.end ≡ Some e)
    go_is_ended v n e at = elim (cases_eq e end) [
      | inl same ↦ elim (ended_now values kept.value values' w b v e) [
        | inl s ↦ absurd (none-some n (sym lacks.here ∙ (ap (number_at w.ends) (sym same) ∙ (sym s.1 ∙ at))))
        | inr o ↦
            let k = are.is_ended v n e (sym o.1 ∙ at) in
            let n_is : n ≡ number = same_Some n number (sym (are.owned n e k.0 k.1 k.3) ∙ (ap owners same ∙ are.owned number end kept there
            is)) in
            absurd (o.0 (sym k.2 ∙ ap (λ (x : KeptWrite). x.value) (same_Some k.0 kept (sym k.1 ∙ (ap writes n_is ∙ there)))))
      ]
      | inr apart ↦
          let k = are.is_ended v n e (sym (go_ended v e apart) ∙ at) in
          (k.0, go_stays n k.0 k.1 (λ f. apart (same_Some e end (sym k.3 ∙ f))), k.2, k.3)
    ]

    go_owner : (e n : ℕ) → owners' e ≡ Some n → (k : KeptWrite) × (writes' n ≡ Some k) × (k.end ≡ Some e)
    go_owner e n at = elim (cases_eq e end) [
      | inl same ↦ absurd (none-some n (sym free.here ∙ (ap owners' (sym same) ∙ at)))
      | inr apart ↦
          let k = are.owner e n (sym (free.others e apart) ∙ at) in
          (k.0, go_stays n k.0 k.1 (λ f. apart (same_Some e end (sym k.2 ∙ f))), k.2)
    ]

    pub indexed_gone : AreIndexed writes' values' owners'
    indexed_gone = record {
      begun = λ n k at none. go_begun k.value n ∙ are.begun n k (go_was n k at) none;
      ended = λ n e k at ends. go_ended k.value e (go_apart n k e at ends) ∙ are.ended n e k (go_was n k at) ends;
      owned = λ n e k at ends. free.others e (go_apart n k e at ends) ∙ are.owned n e k (go_was n k at) ends;
      is_begun = λ v n begin at. go_stays n (unended v begin) (are.is_begun v n begin (sym (go_begun v n) ∙ at)) (λ f. none-some end f);
      is_ended = go_is_ended;
      owner = go_owner;
      some = some_now values kept.value values' w b are.some;
    }
