-- Each move keeps the rule of the hall.
use Rattle.std.proofs.Common.{◌≡◌, ◌≢◌, ℕ, true, zero, suc, List, [], ◌∷◌, ◌++◌, Option, Some, None, set, refl, sym, ap, ◌∙◌, subst, ⊎_elim}
use mathlib.Core.Option.{some, some-ne-none, some-injective}
use lib.ListN.{get_elem?}
use Rattle.std.proofs.lemmas.Option.{same_Some}
use Rattle.tag.proofs.Options.{none_some}
use Rattle.crossbeam_channel.specs.Fifo.{Pushes, Pops, Forks}
use Rattle.atomic_table.proofs.Lists.{at_set, at_snoc, at_longer, set_again}
use Rattle.world_steps.specs.Configs.{config_of}
use Rattle.world_steps.specs.Lasting.{Grows, HasJoined, HasStopped}
use Rattle.world_steps.specs.Systems.{opening}
use Rattle.world_steps.specs.declared.system.System.{System}
use Rattle.hall_journal.specs.Halls.{Hall}
use Rattle.hall_lock.specs.declared.rule.View.{View}
use Rattle.hall_lock.specs.Turns.{AddsOwnRows, AreApart, AgreeWithHall, BecomesSeat, Enters, AgreesWithHall, HasOneHall, KeepsStopped}
use Rattle.hall_lock.specs.Turns.{Knows, MayReturn, OthersAdd, HallStands, Receives, Returns, guest, is_client_stopped, view_with_hall}
use Rattle.hall_lock.specs.Turns.{last_of, maker, view_at_rest, seat_in}
use Rattle.hall_lock.proofs.Rows.{grown_then, more_added, none_added, none_stopped, grown_not}

-- ---- a list in which one view was set

at_here : (views : List View) (i : ℕ) (a b : View) → get_elem? views i ≡ some a → get_elem? (set views i b) i ≡ some b
at_here [] i a b e = absurd (some-ne-none a (sym e))
at_here (x ∷ xs) zero a b e = refl
at_here (x ∷ xs) (suc i) a b e = at_here xs i a b e

all_set : (F : ℕ → View → Type 0) (views : List View) (pass : ℕ) (w : View) → F pass w
    → ((j : ℕ) (u : View) → j ≢ pass → get_elem? views j ≡ some u → F j u) → (j : ℕ) (u : View) → get_elem? (set views pass w) j ≡ some u
    → F j u
all_set F views pass w mine others j u e =
    ⊎_elim (λ (x : (j ≡ pass) × (w ≡ u)). subst (λ (y : ℕ × View). F y.0 y.1) (λ i. (sym x.0 i, x.1 i)) mine)
    (λ (x : (j ≢ pass) × (get_elem? views j ≡ some u)). others j u x.0 x.1)
    (at_set views pass j w u e)

-- the view that stood there before had the same client
Was : List View → ℕ → View → Type 0
Was views j u = (old : View) × (get_elem? views j ≡ some old) × (old.client ≡ u.client)

apart_set : (views : List View) (pass : ℕ) (v w : View) → get_elem? views pass ≡ some v → v.client ≡ w.client → AreApart views
    → AreApart (set views pass w)
unfolding Was
apart_set views pass v w at same apart i j u x client atu atx un xn =
    let was : (k : ℕ) (y : View) → get_elem? (set views pass w) k ≡ some y → Was views k y = all_set (Was views) views pass w
    (v, at, same) (λ k y _ e. (y, e, refl)) in
    let a = was i u atu in
    let b = was j x atx in
    apart i j a.0 b.0 client a.1 b.1 (a.2 ∙ un) (b.2 ∙ xn)

knows_at : (v : View) (a b : System) → a ≡ b → Knows v b → Knows v a
knows_at v a b e k = subst (λ s. Knows v s) (sym e) k

-- where who is stopped stays so, the client of a pass does
stay_stopped : (old new : System) → ((name : ℕ) → HasStopped old name → HasStopped new name) → (client : Option ℕ)
    → is_client_stopped client old ≡ true → is_client_stopped client new ≡ true
stay_stopped old new stay (Some name) is = stay name is
stay_stopped old new stay None is = is

-- ---- the first pass

-- the rule holds as the channel is made
pub begins : HasOneHall [] (maker ∷ [])
begins = record {
  now = opening (config_of 1 1 1);
  holder = Some 0;
  placed = (refl, (maker, refl, refl));
  fitting = one;
  apart = λ i j u v client a b un vn. absurd (unnamed i u client a un);
}
  where
    one : (pass : ℕ) (v : View) → get_elem? (maker ∷ []) pass ≡ some v → AgreesWithHall (opening (config_of 1 1 1)) (Some 0) pass v
    one zero v e = subst (λ u. AgreesWithHall (opening (config_of 1 1 1)) (Some 0) 0 u) (some-injective maker v e) (record {
      knows = record {
        seen = grown_not [];
        others = λ client is. none_some is;
        joined = λ client is. none_some is;
        stopped = λ is.
            none_stopped is;
      };
      out = λ s is. (refl, sym (same_Some (opening (config_of 1 1 1)) s is));
    })
    one (suc pass) v e = absurd (some-ne-none v (sym e))

    unnamed : (pass : ℕ) (v : View) (client : ℕ) → get_elem? (maker ∷ []) pass ≡ some v → v.client ≡ Some client → ⊥
    unnamed zero v client e n = none_some (ap (λ (u : View). u.client) (some-injective maker v e) ∙ n)
    unnamed (suc pass) v client e n = some-ne-none v (sym e)

-- ---- the hall is taken

takes_at : (pass : ℕ) (v : View) (hall : Hall) (halls : List Hall) (views : List View) (now : System) (holder : Option ℕ)
    → HallStands (hall ∷ halls) views now holder → AgreeWithHall now holder views → AreApart views → get_elem? views pass ≡ some v
    → (w : View) × HasOneHall halls (set views pass w) × Receives v hall w
takes_at pass v hall halls views now (Some p) placed fitting apart at = let e : hall ∷ halls ≡ [] = placed.0 in absurd (cc)
takes_at pass v hall halls views now None placed fitting apart at =
    let e : hall ∷ halls ≡ placed.0 ∷ [] = placed.1 in
    let here : hall ≡ placed.0 = cc in
    let rest : halls ≡ [] = cc in
    let same : hall.world ≡ now = ap (λ (h : Hall). h.world) here ∙ placed.2 in
    let w = view_with_hall v hall.world in
    let mine : Knows v hall.world = knows_at v hall.world now same (fitting pass v at).knows in (
      w,
      record {
        now = hall.world;
        holder = Some pass;
        placed = (rest, (w, at_here views pass v w at, refl));
        fitting = all_set (AgreesWithHall hall.world (Some pass)) views pass w
            (record {
              knows = record { seen = mine.seen; others = mine.others; joined = mine.joined; stopped = mine.stopped };
              out = λ s
                  is. (refl, sym (same_Some hall.world s is));
            })
            (λ j u _ a. record {
              knows = knows_at u hall.world now same (fitting j u a).knows;
              out = λ s is. none_some
                  ((fitting j u a).out s is).0;
            });
        apart = apart_set views pass v w at refl apart;
      },
      record { is = refl; knows = mine },
    )

pub takes : (pass : ℕ) (v : View) → Pops HasOneHall pass v (Receives v)
takes pass v hall halls views kept at = takes_at pass v hall halls views kept.now kept.holder kept.placed kept.fitting kept.apart at

-- what the rule says where this pass has the hall
record Held (pass : ℕ) (old : System) (halls : List Hall) (views : List View) : Type 0 where
  empty : halls ≡ []
  fitting : AgreeWithHall old (Some pass) views

held : (pass : ℕ) (v : View) (old : System) (halls : List Hall) (views : List View) → v.held ≡ Some old → HasOneHall halls views
    → get_elem? views pass ≡ some v → Held pass old halls views
held pass v old halls views taken kept at =
    let out = (kept.fitting pass v at).out old taken in
    let placed : HallStands halls views kept.now (Some pass) = subst (λ h. HallStands halls views kept.now h) out.0 kept.placed in
    record {
      empty = placed.0;
      fitting = subst (λ (y : System × Option ℕ). AgreeWithHall y.0 y.1 views) (λ i. (sym out.1 i, out.0 i)) kept.fitting;
    }

-- ---- the hall is given back

-- what a pass of another client, or of none, knows stays true
others_know : (v u : View) (old new : System) → AddsOwnRows v.client old new → Knows u old
    → ((client : ℕ) → u.client ≡ Some client → v.client ≡ Some client → ⊥) → Knows u new
others_know v u old new adds knows apart = record {
  seen = grown_then u.rows old.history.rows new.history.rows knows.seen adds.grown;
  others = λ client is. more_added client u.rows old.history.rows new.history.rows (knows.others client is) (record {
    grown = adds.grown;
    others = λ place row late at.
        let own = adds.own place row late at in
        record { name = own.name; apart = λ (same : own.name ≡ client). apart client is (own.named ∙ ap (λ n. Some n) same); is = own.is };
  });
  joined = λ client is. adds.joined client (knows.joined client is);
  stopped = λ is. stay_stopped old new adds.stopped u.client (knows.stopped is);
}

-- a pass that has just given the hall back
rests : (s : System) (pass : ℕ) (w : View) → w.rows ≡ s.history.rows → w.held ≡ None
    → ((name : ℕ) → w.client ≡ Some name → HasJoined s name)
    → (w.is_stopped ≡ true → is_client_stopped w.client s ≡ true) → AgreesWithHall s None pass w
rests s pass w rows free joined stopped = record {
  knows = record {
    seen = subst (λ l. Grows l s.history.rows) (sym rows) (grown_not s.history.rows);
    others = λ name is. subst (λ l. OthersAdd name l s.history.rows) (sym rows) (none_added name s.history.rows);
    joined = joined;
    stopped = stopped;
  };
  out = λ other is. none_some (sym free ∙ is);
}

pub gives : (n pass : ℕ) (v : View) (hall : Hall) → MayReturn v hall.world → Pushes HasOneHall n pass v hall (Returns v hall)
gives n pass v hall may halls views _ kept at =
    let old = may.old in
    let adds = may.adds in
    let h : Held pass old halls views = held pass v old halls views may.held kept at in
    let w = view_at_rest v hall.world in
    let mine : Knows v old = (h.fitting pass v at).knows in (
      w,
      record {
        now = hall.world;
        holder = None;
        placed = (hall, ap (λ l. l ++ hall ∷ []) h.empty, refl);
        fitting = all_set (AgreesWithHall hall.world None) views pass w
            (rests hall.world pass w refl refl (λ client is. adds.joined client (mine.joined client is)) (λ is. is))
            (λ j u away a. record {
              knows = others_know v u old hall.world adds (h.fitting j u a).knows
                  (λ client un vn. away (kept.apart j pass u v client a at un vn));
              out = λ s is. absurd (away (sym (same_Some pass j ((h.fitting j u a).out s is).0)));
            });
        apart = apart_set views pass v w at refl kept.apart;
      },
      refl,
    )

-- who is stopped stays so, as the hall is given back
pub keeps_stopped : (v : View) (new : System) → MayReturn v new → KeepsStopped v new
keeps_stopped v new may old client taken stopped = may.adds.stopped client
    (subst (λ s. HasStopped s client) (same_Some old may.old (sym taken ∙ may.held)) stopped)

-- ---- a further pass, without a client

pub forks : (pass : ℕ) (v : View) → Forks HasOneHall pass v v (guest v.rows)
forks pass v halls views kept at =
    let again = set_again views pass v at in
    subst (λ l. HasOneHall halls (l ++ guest v.rows ∷ [])) (sym again) (record {
      now = kept.now;
      holder = kept.holder;
      placed = placed_more kept.holder kept.placed;
      fitting = λ j u e. ⊎_elim (λ a. kept.fitting j u a) (λ (is : guest v.rows ≡ u). subst (λ y. AgreesWithHall kept.now kept.holder j y)
          is (record {
            knows = record {
              seen = (kept.fitting pass v at).knows.seen;
              others = λ client n. none_some n;
              joined = λ client n. none_some n;
              stopped = λ n. none_stopped n;
            };
            out = λ s n. none_some n;
          })) (at_snoc views (guest v.rows) u j e);
      apart = λ i j u x client a b un xn. kept.apart i j u x client (old_at i u client a un) (old_at j x client b xn) un xn;
    })
  where
    placed_more : (holder : Option ℕ) → HallStands halls views kept.now holder
        → HallStands halls (views ++ guest v.rows ∷ []) kept.now holder
    placed_more None p = p
    placed_more (Some q) p = (p.0, (p.1.0, at_longer views (guest v.rows ∷ []) q p.1.0 p.1.1, p.1.2))

    old_at : (i : ℕ) (u : View) (client : ℕ) → get_elem? (views ++ guest v.rows ∷ []) i ≡ some u → u.client ≡ Some client
        → get_elem? views i ≡ some u
    old_at i u client e n = ⊎_elim (λ a. a) (λ (is : guest v.rows ≡ u). none_some (ap (λ (y : View). y.client) is ∙ n))
        (at_snoc views (guest v.rows) u i e)

-- ---- the hall is given back with a new client

pub last_of-push : (names : List ℕ) (name : ℕ) → last_of (names ++ name ∷ []) ≡ name
last_of-push [] name = refl
last_of-push (x ∷ []) name = refl
last_of-push (x ∷ y ∷ names) name = last_of-push (y ∷ names) name

entered : (u : View) (old new : System) (client : ℕ) → Enters old client new → Knows u old → Knows u new
entered u old new client enters knows = record {
  seen = subst (λ l. Grows u.rows l) (sym enters.rows) knows.seen;
  others = λ name is. subst (λ l. OthersAdd name u.rows l) (sym enters.rows) (knows.others name is);
  joined = λ name is. enters.stayed name (knows.joined name is);
  stopped = λ is. stay_stopped old new enters.stopped u.client (knows.stopped is);
}

pub joins : (n pass : ℕ) (v : View) (hall : Hall) (old : System) (client : ℕ) → v.client ≡ None → v.held ≡ Some old
    → Enters old client hall.world → Pushes HasOneHall n pass v hall (BecomesSeat v hall)
joins n pass v hall old client unnamed taken enters halls views _ kept at =
    let h : Held pass old halls views = held pass v old halls views taken kept at in
    let last : last_of hall.world.members.joined ≡ client = ap last_of enters.names ∙ last_of-push old.members.joined client in
    let w = seat_in client hall.world in
    let new : (j : ℕ) (u : View) → get_elem? views j ≡ some u → Knows u hall.world = λ j u a. entered u old hall.world client enters
    (h.fitting j u a).knows in
    let apart_from : (j : ℕ) (u : View) (name : ℕ) → get_elem? views j ≡ some u → u.client ≡ Some name → name ≢ client = λ j u name a un
    same. enters.fresh (subst (λ k. HasJoined old k) same ((h.fitting j u a).knows.joined name un)) in (
      w,
      record {
        now = hall.world;
        holder = None;
        placed = (hall, ap (λ l. l ++ hall ∷ []) h.empty, refl);
        fitting = all_set (AgreesWithHall hall.world None) views pass w
            (rests hall.world pass w refl refl (λ name is. subst (λ k. HasJoined hall.world k) (same_Some client name is) enters.joined)
            (λ is. is))
            (λ j u away a. record {
              knows = new j u a;
              out = λ s is. absurd (away (sym (same_Some pass j ((h.fitting j u a).out s is).0)));
            });
        apart = λ i j u x name a b un xn.
            all_set (λ k y. y.client ≡ Some name → k ≡ j) views pass w
            (λ is. all_set (λ k y. y.client ≡ Some name → pass ≡ k) views pass w (λ _. refl)
            (λ k y _ e yn. absurd (apart_from k y name e yn (sym (same_Some client name is)))) j x b xn)
            (λ k y _ e yn. all_set (λ m z. z.client ≡ Some name → k ≡ m) views pass w
            (λ zs. absurd (apart_from k y name e yn (sym (same_Some client name zs))))
            (λ m z _ f zn. kept.apart k m y z name e f yn zn) j x b xn)
            i u a un;
      },
      ap (λ k. seat_in k hall.world) (sym last),
    )
