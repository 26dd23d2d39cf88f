-- What is kept in slots and maps, after a change of one of them.
use Rattle.std.proofs.Common.{ℕ, ◌≡◌, ◌<◌, List, ◌∷◌, Option, Some, None, Bool, true, false, not, is_some, Result, Ok, Err, OnOk, length, ap, sym, subst, ◌∙◌, refl, arith}
use Rattle.std.proofs.lemmas.Option.{none-some, same_Some}
use Rattle.key_monitor.specs.KeptWrites.{KeptWrite}
use Rattle.monitored_key.specs.declared.indexed.Indexed.{Indexed}
use Rattle.monitored_key.specs.declared.writes.Writes.{Writes}
use Rattle.monitored_key.specs.Indexed.{AreMapped, owner_in, write_in}
use Rattle.monitored_key.specs.Maps.{Lacks, Sets, entry_at}
use Rattle.monitored_key.specs.Slots.{GoesHere, HasEndHere, HasOtherEnd, HasOtherNumber, StandsApart, owner_beside, put_before}
use Rattle.monitored_key.specs.WritesOf.{AreFit, entries_of, kept_of, owner_of, rest_of, rest_owner}
use Rattle.monitored_key.proofs.Front.{add_apart, add_beside, add_owner, add_sets, end_apart, end_beside, end_by_none, end_owns, end_sets, end_was}
use Rattle.monitored_key.proofs.Front.{go_apart, go_beside, go_entry, go_free, go_lacks, go_owner, lacks_beside, other_by_none, owner_lacks}
use Rattle.monitored_key.proofs.Front.{owner_sets, rest_entry, rest_owned, same_owner, sets_beside}
use Rattle.monitored_key.proofs.Indexing.{with_end}

pub none_of : {X : Type 0} (o : Option X) (b : Bool) → is_some o ≡ not b → b ≡ true → o ≡ None
none_of None b e is = refl
none_of (Some x) true e is = absurd cc
none_of (Some x) false e is = absurd cc

pub on_ok_three : {T E A B C D : Type 0} (r : Result T E) → (A → B → C → D) → OnOk r A → OnOk r B → OnOk r C → OnOk r D
on_ok_three (Ok v) f a b c = f a b c
on_ok_three (Err e) f a b c = tt

-- ---- a write more

pub record Added (old : Writes) (n : ℕ) (k : KeptWrite) (new : Writes) : Type 0 where
  pub fit : AreFit new
  pub kept : Sets (kept_of old) n k (kept_of new)
  pub ends : (e : ℕ) → owner_of new e ≡ owner_of old e

module _ (s : Writes) (fit : AreFit s) (n : ℕ) (free : kept_of s n ≡ None) (k : KeptWrite) (none : k.end ≡ None) where
  pub in_first : s.first ≡ None → Added s n k (record { alloc = s.alloc; first = Some (n, k); second = s.second; more = s.more })
  in_first is =
      let rest = rest_of s in
      let owners = rest_owner s in
      record {
        fit = record {
          mapped = fit.mapped;
          second = fit.second;
          first = add_apart rest owners n k none
              (sym (ap (λ (o : Option (ℕ × KeptWrite)). entry_at (put_before o rest) n) is) ∙ free);
        };
        kept = subst (λ (o : Option (ℕ × KeptWrite)). Sets (entry_at (put_before o rest)) n k (entry_at ((n, k) ∷ rest))) (sym is)
            (add_sets rest owners n k);
        ends = λ e. add_owner rest owners n k none e ∙ ap (λ (o : Option (ℕ × KeptWrite)). owner_beside o owners e) (sym is);
      }

  other_first : HasOtherNumber s.first n
  other_first = other_by_none s.first (rest_of s) n free

  free_rest : entry_at (rest_of s) n ≡ None
  free_rest = sym (rest_entry s.first (rest_of s) n other_first) ∙ free

  -- the rest has it
  by_rest : (second : Option (ℕ × KeptWrite)) (more : Indexed) → AreMapped more
      → StandsApart second more.by_number.entries (owner_in more)
      → Sets (entry_at (rest_of s)) n k (entry_at (put_before second more.by_number.entries))
      → ((e : ℕ) → owner_beside second (owner_in more) e ≡ rest_owner s e)
      → Added s n k (record { alloc = s.alloc; first = s.first; second = second; more = more })
  by_rest second more mapped apart sets same =
      let rest = put_before second more.by_number.entries in
      let owners = owner_beside second (owner_in more) in
      record {
        fit = record {
          mapped = mapped;
          second = apart;
          first = add_beside s.first (rest_of s) rest (rest_owner s) owners fit.first n other_first k sets same;
        };
        kept = sets_beside (rest_of s) rest s.first n k other_first sets;
        ends = same_owner (rest_of s) rest (rest_owner s) owners s.first same;
      }

  pub in_second : s.second ≡ None → Added s n k (record { alloc = s.alloc; first = s.first; second = Some (n, k); more = s.more })
  in_second is =
      let es = s.more.by_number.entries in
      let o = owner_in s.more in
      by_rest (Some (n, k)) s.more fit.mapped
      (add_apart es o n k none (sym (ap (λ (x : Option (ℕ × KeptWrite)). entry_at (put_before x es) n) is) ∙ free_rest))
      (subst (λ (x : Option (ℕ × KeptWrite)). Sets (entry_at (put_before x es)) n k (entry_at ((n, k) ∷ es))) (sym is) (add_sets es o n k))
      (λ e. add_owner es o n k none e ∙ ap (λ (x : Option (ℕ × KeptWrite)). owner_beside x o e) (sym is))

  other_second : HasOtherNumber s.second n
  other_second = other_by_none s.second s.more.by_number.entries n free_rest

  pub free_more : write_in s.more n ≡ None
  free_more = sym (rest_entry s.second s.more.by_number.entries n other_second) ∙ free_rest

  pub in_more : (more : Indexed) → AreMapped more → Sets (write_in s.more) n k (write_in more)
      → ((e : ℕ) → owner_in more e ≡ owner_in s.more e)
      → Added s n k (record { alloc = s.alloc; first = s.first; second = s.second; more = more })
  in_more more mapped sets same =
      let es = s.more.by_number.entries in
      let es' = more.by_number.entries in
      by_rest s.second more mapped
      (add_beside s.second es es' (owner_in s.more) (owner_in more) fit.second n other_second k sets same)
      (sets_beside es es' s.second n k other_second sets)
      (same_owner es es' (owner_in s.more) (owner_in more) s.second same)

-- ---- a write has its end

pub record Ended (old : Writes) (n place : ℕ) (kept : KeptWrite) (new : Writes) : Type 0 where
  pub fit : AreFit new
  pub kept_is : Sets (kept_of old) n (with_end kept place) (kept_of new)
  pub ends : Sets (owner_of old) place n (owner_of new)

module _ (s : Writes) (fit : AreFit s) (n place : ℕ) (kept : KeptWrite) (there : kept_of s n ≡ Some kept) (none : kept.end ≡ None)
    (free : owner_of s place ≡ None) where
  pub end_first : (new : Option (ℕ × KeptWrite)) → HasEndHere s.first n place new
      → Ended s n place kept (record { alloc = s.alloc; first = new; second = s.second; more = s.more })
  end_first new h =
      let rest = rest_of s in
      let owners = rest_owner s in
      let same : h.kept ≡ kept = same_Some h.kept kept (sym (end_was rest owners n s.first new place h fit.first) ∙ there) in
      let no_end : h.kept.end ≡ None = ap (λ (x : KeptWrite). x.end) same ∙ none in
      record {
        fit = record {
          mapped = fit.mapped;
          second = fit.second;
          first = end_apart rest owners n s.first new place h fit.first no_end free;
        };
        kept_is = subst (λ (x : KeptWrite). Sets (kept_of s) n (with_end x place) (entry_at (put_before new rest))) same
            (end_sets rest owners n s.first new place h fit.first no_end free);
        ends = end_owns rest owners n s.first new place h fit.first no_end free;
      }

  than_first : HasOtherEnd s.first place
  than_first = end_by_none s.first (rest_owner s) place free

  pub free_rest_end : rest_owner s place ≡ None
  free_rest_end = sym (rest_owned s.first (rest_owner s) place than_first) ∙ free

  module _ (other : HasOtherNumber s.first n) where
    pub there_rest : entry_at (rest_of s) n ≡ Some kept
    there_rest = sym (rest_entry s.first (rest_of s) n other) ∙ there

    end_rest : (second : Option (ℕ × KeptWrite)) (more : Indexed) → AreMapped more
        → StandsApart second more.by_number.entries (owner_in more)
        → Sets (entry_at (rest_of s)) n (with_end kept place) (entry_at (put_before second more.by_number.entries))
        → Sets (rest_owner s) place n (owner_beside second (owner_in more))
        → Ended s n place kept (record { alloc = s.alloc; first = s.first; second = second; more = more })
    end_rest second more mapped apart sets owns =
        let rest = put_before second more.by_number.entries in
        let owners = owner_beside second (owner_in more) in
        record {
          fit = record {
            mapped = mapped;
            second = apart;
            first = end_beside s.first (rest_of s) rest (rest_owner s) owners fit.first n other place than_first (with_end kept place) sets
                owns;
          };
          kept_is = sets_beside (rest_of s) rest s.first n (with_end kept place) other sets;
          ends = owner_sets (rest_of s) rest (rest_owner s) owners s.first place n than_first owns;
        }

    pub end_second : (new : Option (ℕ × KeptWrite)) → HasEndHere s.second n place new
        → Ended s n place kept (record { alloc = s.alloc; first = s.first; second = new; more = s.more })
    end_second new h =
        let es = s.more.by_number.entries in
        let o = owner_in s.more in
        let same : h.kept ≡ kept = same_Some h.kept kept (sym (end_was es o n s.second new place h fit.second) ∙ there_rest) in
        let no_end : h.kept.end ≡ None = ap (λ (x : KeptWrite). x.end) same ∙ none in
        end_rest new s.more fit.mapped
        (end_apart es o n s.second new place h fit.second no_end free_rest_end)
        (subst (λ (x : KeptWrite). Sets (entry_at (rest_of s)) n (with_end x place) (entry_at (put_before new es))) same
        (end_sets es o n s.second new place h fit.second no_end free_rest_end))
        (end_owns es o n s.second new place h fit.second no_end free_rest_end)

    than_second : HasOtherEnd s.second place
    than_second = end_by_none s.second (owner_in s.more) place free_rest_end

    pub free_more_end : owner_in s.more place ≡ None
    free_more_end = sym (rest_owned s.second (owner_in s.more) place than_second) ∙ free_rest_end

    module _ (other_too : HasOtherNumber s.second n) where
      pub there_more : write_in s.more n ≡ Some kept
      there_more = sym (rest_entry s.second s.more.by_number.entries n other_too) ∙ there_rest

      pub end_more : (more : Indexed) → AreMapped more → Sets (write_in s.more) n (with_end kept place) (write_in more)
          → Sets (owner_in s.more) place n (owner_in more)
          → Ended s n place kept (record { alloc = s.alloc; first = s.first; second = s.second; more = more })
      end_more more mapped sets owns =
          let es = s.more.by_number.entries in
          let es' = more.by_number.entries in
          end_rest s.second more mapped
          (end_beside s.second es es' (owner_in s.more) (owner_in more) fit.second n other_too place than_second (with_end kept place) sets
          owns)
          (sets_beside es es' s.second n (with_end kept place) other_too sets)
          (owner_sets es es' (owner_in s.more) (owner_in more) s.second place n than_second owns)

-- ---- a write goes

pub record Gone (old : Writes) (end n : ℕ) (kept : KeptWrite) (new : Writes) : Type 0 where
  pub owner : owner_of old end ≡ Some n
  pub was : kept_of old n ≡ Some kept
  pub ended : kept.end ≡ Some end
  pub fit : AreFit new
  pub lacks : Lacks (kept_of old) n (kept_of new)
  pub ends : Lacks (owner_of old) end (owner_of new)
  pub fewer : length (entries_of new) < length (entries_of old)

less_beside : (slot : Option (ℕ × KeptWrite)) (new old : List (ℕ × KeptWrite)) → length new < length old
    → length (put_before slot new) < length (put_before slot old)
less_beside None new old less = less
less_beside (Some w) new old less = omega arith

less_here : (old new : Option (ℕ × KeptWrite)) (end : ℕ) (es : List (ℕ × KeptWrite)) → GoesHere old end new
    → length (put_before new es) < length (put_before old es)
less_here (Some w) None end es h = omega arith
less_here None new end es h = absurd (none-some (h.number, h.kept) h.was)
less_here old (Some w) end es h = absurd (none-some w (sym h.is))

other_by_entry : (slot : Option (ℕ × KeptWrite)) (es : List (ℕ × KeptWrite)) (owners : ℕ → Option ℕ) (n : ℕ) (k : KeptWrite)
    → StandsApart slot es owners → entry_at es n ≡ Some k → HasOtherNumber slot n
other_by_entry None es owners n k apart at = tt
other_by_entry (Some w) es owners n k apart at = λ same. none-some k (sym apart.0 ∙ (ap (entry_at es) same ∙ at))

module _ (s : Writes) (fit : AreFit s) (end : ℕ) where
  pub go_first : (new : Option (ℕ × KeptWrite)) (h : GoesHere s.first end new)
      → Gone s end h.number h.kept (record { alloc = s.alloc; first = new; second = s.second; more = s.more })
  go_first new h =
      let rest = rest_of s in
      let owners = rest_owner s in
      record {
        owner = go_owner rest owners s.first new end h fit.first;
        was = go_entry rest owners s.first new end h fit.first;
        ended = h.ended;
        fit = record { mapped = fit.mapped; second = fit.second; first = go_apart rest owners s.first new end h fit.first rest owners };
        lacks = go_lacks rest owners s.first new end h fit.first;
        ends = go_free rest owners s.first new end h fit.first;
        fewer = less_here s.first new end rest h;
      }

  module _ (than : HasOtherEnd s.first end) where
    go_rest : (n : ℕ) (kept : KeptWrite) → rest_owner s end ≡ Some n → entry_at (rest_of s) n ≡ Some kept → kept.end ≡ Some end
        → (second : Option (ℕ × KeptWrite)) (more : Indexed) → AreMapped more
        → StandsApart second more.by_number.entries (owner_in more)
        → Lacks (entry_at (rest_of s)) n (entry_at (put_before second more.by_number.entries))
        → Lacks (rest_owner s) end (owner_beside second (owner_in more))
        → length (put_before second more.by_number.entries) < length (rest_of s)
        → Gone s end n kept (record { alloc = s.alloc; first = s.first; second = second; more = more })
    go_rest n kept own at ended second more mapped apart lacks free less =
        let rest = put_before second more.by_number.entries in
        let owners = owner_beside second (owner_in more) in
        let other = other_by_entry s.first (rest_of s) (rest_owner s) n kept fit.first at in
        record {
          owner = rest_owned s.first (rest_owner s) end than ∙ own;
          was = rest_entry s.first (rest_of s) n other ∙ at;
          ended = ended;
          fit = record {
            mapped = mapped;
            second = apart;
            first = go_beside s.first (rest_of s) rest (rest_owner s) owners fit.first n other end than lacks free;
          };
          lacks = lacks_beside (rest_of s) rest s.first n other lacks;
          ends = owner_lacks (rest_of s) rest (rest_owner s) owners s.first end than free;
          fewer = less_beside s.first rest (rest_of s) less;
        }

    pub go_second : (new : Option (ℕ × KeptWrite)) (h : GoesHere s.second end new)
        → Gone s end h.number h.kept (record { alloc = s.alloc; first = s.first; second = new; more = s.more })
    go_second new h =
        let es = s.more.by_number.entries in
        let o = owner_in s.more in
        go_rest h.number h.kept (go_owner es o s.second new end h fit.second) (go_entry es o s.second new end h fit.second) h.ended
        new s.more fit.mapped (go_apart es o s.second new end h fit.second es o) (go_lacks es o s.second new end h fit.second)
        (go_free es o s.second new end h fit.second) (less_here s.second new end es h)

    pub rest_is : owner_of s end ≡ rest_owner s end
    rest_is = rest_owned s.first (rest_owner s) end than

    module _ (than_too : HasOtherEnd s.second end) where
      pub more_is : owner_of s end ≡ owner_in s.more end
      more_is = rest_is ∙ rest_owned s.second (owner_in s.more) end than_too

      pub go_more : (n : ℕ) (kept : KeptWrite) → owner_in s.more end ≡ Some n → write_in s.more n ≡ Some kept → kept.end ≡ Some end
          → (more : Indexed) → AreMapped more → Lacks (write_in s.more) n (write_in more) → Lacks (owner_in s.more) end (owner_in more)
          → length more.by_number.entries < length s.more.by_number.entries
          → Gone s end n kept (record { alloc = s.alloc; first = s.first; second = s.second; more = more })
      go_more n kept own at ended more mapped lacks free less =
          let es = s.more.by_number.entries in
          let es' = more.by_number.entries in
          let o = owner_in s.more in
          let o' = owner_in more in
          let other = other_by_entry s.second es o n kept fit.second at in
          go_rest n kept (rest_owned s.second o end than_too ∙ own) (rest_entry s.second es n other ∙ at) ended s.second more mapped
          (go_beside s.second es es' o o' fit.second n other end than_too lacks free) (lacks_beside es es' s.second n other lacks)
          (owner_lacks es es' o o' s.second end than_too free) (less_beside s.second es' es less)
