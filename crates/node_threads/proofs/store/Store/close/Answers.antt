use Rattle.std.proofs.Common.{◌≡◌, ◌∙◌, refl, ap, subst, length, List}
use Rattle.node_threads.specs.declared.closing.ClosedHall.{ClosedHall}
use Rattle.node_threads.specs.declared.config.StoreConfig.{StoreConfig}
use Rattle.node_threads.specs.Closings.{HaveLogs}
use Rattle.seats.specs.Seats.{Seat}
use Rattle.node_threads.specs.Stores.{Store}
use Rattle.node_threads.proofs.OwnSeats.{closes, none_foreign_given, own_given}
use Rattle.node_threads.proofs.store.Store.close.Goals as goal

pub returns-clause-closed : goal.returns-clause-closed
returns-clause-closed g c =
    let config : c.self.inside.config ≡ c.args.self.config = ap (λ (s : Store _). s.config) c.self.view_is in
    let halls : length c.in_ok-halls.halls.items ≡ c.args.self.config.halls = c.in_ok-halls.ensures.count ∙ c.self.invariant.0 ∙ ap
    (λ (o : StoreConfig). o.halls) config in
    let logs : HaveLogs c.in_ok-halls.halls.items c.args.seats.items =
    subst (λ (y : List ClosedHall × List Seat). HaveLogs y.0 y.1) (λ i. (c.deref-2.ensures.value i, c.deref-3.ensures.value i))
    (c.in_ok-are_logged.ensures (let no = c.if-not-branch.false in cc)) in
    closes c.args.self.config c.args.seats.items c.in_ok-halls.halls.items halls c.in_ok-halls.ensures.closed
    (own_given c.self.inside.config c.args.self.config _ c.args.seats.items config c.deref.ensures.value
    (c.if-not-are_of_store.ensures refl)) logs

pub returns-clause-foreign : goal.returns-clause-foreign
returns-clause-foreign g c = λ foreign. absurd (none_foreign_given c.self.inside.config c.args.self.config _ c.args.seats.items
    (ap (λ (s : Store _). s.config) c.self.view_is) c.deref.ensures.value (c.if-not-are_of_store.ensures refl) foreign)

pub returns-in_err-halls-clause-foreign : goal.returns-in_err-halls-clause-foreign
returns-in_err-halls-clause-foreign g c = λ foreign. absurd (none_foreign_given c.self.inside.config c.args.self.config _
    c.args.seats.items (ap (λ (s : Store _). s.config) c.self.view_is) c.deref.ensures.value (c.if-not-are_of_store.ensures refl) foreign)

pub returns-in_err-are_logged-clause-foreign : goal.returns-in_err-are_logged-clause-foreign
returns-in_err-are_logged-clause-foreign g c = λ foreign. absurd (none_foreign_given c.self.inside.config c.args.self.config _
    c.args.seats.items (ap (λ (s : Store _). s.config) c.self.view_is) c.deref.ensures.value (c.if-not-are_of_store.ensures refl) foreign)
