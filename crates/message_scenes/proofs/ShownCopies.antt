-- The arrows of a scene show the copies of its run.
use Rattle.std.proofs.Common.{ℕ, ◌≡◌, ◌+◌, List, [], ◌∷◌, ◌++◌, length, Option, None, Some}
use Rattle.std.proofs.Common.{refl, sym, ap, ◌∙◌, subst, append_assoc, append-nil, length-append, arith}
use Rattle.std.specs.FinMap as finite
use Rattle.std.specs.Ordering.{nat_cmp}
use Rattle.std.specs.Prelude.{take}
use Rattle.std.proofs.lemmas.List.Sorted.{IsPermutation-refl}
use Rattle.std.specs.Option.{option_map_or}
use Rattle.network.specs.declared.flights.Flight.{Flight}
use Rattle.network.specs.Flights.{copies_of}
use Rattle.network.specs.Pools.{Pool}
use Rattle.message_scenes.specs.declared.arrows.Arrow.{Arrow}
use Rattle.world_steps.specs.Configs.{Config}
use Rattle.world_steps.specs.Refusals.{refusal_of}
use Rattle.world_steps.specs.Systems.{opening, system_after}
use Rattle.world_steps.specs.declared.step.Step.{Step}
use Rattle.world_steps.specs.declared.system.System.{System}
use Rattle.script_runs.specs.declared.command.NumberedCommand.{NumberedCommand}
use Rattle.script_runs.specs.declared.origin.Origin.{Origin}
use Rattle.message_scenes.specs.Arrows.{arrows_after}
use Rattle.message_scenes.specs.Copies.{ShowCopies}
use Rattle.message_scenes.specs.Shapes.{Shapes, no_shapes, row_of, with_row, with_rows, with_step}
use Rattle.message_scenes.specs.Tried.{TakenStep, Tried, TriesAll, refused, taken_step, took, unfinished}
use Rattle.message_scenes.proofs.Chain.{AreChained, chain_all, chain_first}
use Rattle.message_scenes.proofs.Chain.AreChained.{begins, ends, leaves, refuses}
use Rattle.message_scenes.proofs.Copying.{Shown, still_on}
use Rattle.message_scenes.proofs.Stepping.{step_shown}

-- one row more
next_row : (earlier : List Tried) (one : Tried) (pool : Pool) (arrows : List Arrow) (shapes : Shapes) → Shown (earlier ++ one ∷ []) (length shapes.rows + 1) pool arrows
    → Shown (earlier ++ one ∷ []) (length (shapes.rows ++ row_of one ∷ [])) pool arrows
next_row earlier one pool arrows shapes all =
    let grows = length-append shapes.rows (row_of one ∷ []) in
    let long : length shapes.rows + 1 ≡ length (shapes.rows ++ row_of one ∷ []) = omega (arith, grows) in
    subst (λ (n : ℕ). Shown (earlier ++ one ∷ []) n pool arrows) long all

-- that of a step that was taken
shapes_on : (earlier : List Tried) (origin : Origin) (s : System) (step : Step) (shapes : Shapes)
    → Shown earlier (length shapes.rows) s.pool shapes.arrows → refusal_of s step ≡ None
    → Shown (earlier ++ took (taken_step origin s step) ∷ []) (length (with_step shapes (taken_step origin s step)).rows) (system_after s step).pool
    (with_step shapes (taken_step origin s step)).arrows
unfolding with_step arrows_after
shapes_on earlier origin s step shapes so_far none =
    let t : TakenStep = taken_step origin s step in
    next_row earlier (took t) (system_after s step).pool (with_step shapes t).arrows shapes
    (step_shown earlier (length shapes.rows) origin s shapes.arrows so_far step none)

-- all of them
all_on : (s last : System) (earlier tried : List Tried) (shapes : Shapes) → AreChained s tried last
    → Shown earlier (length shapes.rows) s.pool shapes.arrows → ShowCopies (earlier ++ tried) (with_rows shapes tried).arrows
all_on s last earlier tried shapes (ends a) so_far =
    subst (λ (all : List Tried). ShowCopies all shapes.arrows) (sym (append-nil earlier)) so_far.copies
all_on s last earlier tried shapes (begins origin a step others end none rest) so_far =
    let t : TakenStep = taken_step origin a step in
    subst (λ (all : List Tried). ShowCopies all (with_rows (with_step shapes t) others).arrows) (append_assoc earlier (took t ∷ []) others)
    (all_on (system_after a step) end (earlier ++ took t ∷ []) others (with_step shapes t) rest (shapes_on earlier origin a step shapes so_far none))
all_on s last earlier tried shapes (refuses origin a step why others end rest) so_far =
    let one : Tried = refused origin step why in
    subst (λ (all : List Tried). ShowCopies all (with_rows (with_row shapes one) others).arrows) (append_assoc earlier (one ∷ []) others)
    (all_on a end (earlier ++ one ∷ []) others (with_row shapes one) rest
    (next_row earlier one a.pool shapes.arrows shapes (still_on earlier (length shapes.rows) one a.pool shapes.arrows so_far refl refl)))
all_on s last earlier tried shapes (leaves line name why a others end rest) so_far =
    let one : Tried = unfinished line name why in
    subst (λ (all : List Tried). ShowCopies all (with_rows (with_row shapes one) others).arrows) (append_assoc earlier (one ∷ []) others)
    (all_on a end (earlier ++ one ∷ []) others (with_row shapes one) rest
    (next_row earlier one a.pool shapes.arrows shapes (still_on earlier (length shapes.rows) one a.pool shapes.arrows so_far refl refl)))

-- before the first
none_there : (q : ℕ) (x : Flight) → finite.get {X = Flight} {R = nat_cmp} finite.empty q ≡ Some x → ⊥
none_there q x h = let e : None ≡ Some x = sym (finite.get-empty nat_cmp q) ∙ h in cc

none_counted : (q : ℕ) → 0 ≡ copies_of finite.empty q
none_counted q = sym (ap (λ (found : Option Flight). option_map_or (λ (x : Flight). x.copies) found 0) (finite.get-empty nat_cmp q))

none_yet : (config : Config) → Shown [] 0 (opening config).pool []
none_yet config = record {
  copies = record { begins = refl; ends = IsPermutation-refl []; later = tt };
  counted = refl;
  early = tt;
  agrees = record {
    given = λ q x h. absurd (none_there q x h);
    least = λ q x h. absurd (none_there q x h);
    counts = λ q. none_counted q;
  };
}

pub copies_shown : (config : Config) (commands : List NumberedCommand) (last : System) (tried : List Tried) (most : ℕ)
    → TriesAll (opening config) commands last tried → ShowCopies (take most tried) (with_rows no_shapes (take most tried)).arrows
copies_shown config commands last tried most all =
    let (mid, chained) = chain_first most (opening config) last tried (chain_all (opening config) last commands tried all) in
    all_on (opening config) mid [] (take most tried) no_shapes chained (none_yet config)
