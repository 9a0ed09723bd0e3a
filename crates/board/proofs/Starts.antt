-- A run that is begun from a draft closed under two orders.
use Rattle.std.proofs.Common.{◌≡◌, List, refl, subst}
use Rattle.rows.specs.declared.row.Row.{Row}
use Rattle.rating.specs.Orders.{Sequence}
use Rattle.rating.specs.Rankings.{Agrees}
use Rattle.feeds.specs.Meanings.{View}
use Rattle.board.specs.Guarantee.{AssuredBy, ServesBy}
use Rattle.board.specs.Runs.{New, memory_ranking, processor_ranking, rows_in}
use Rattle.board.specs.declared.run.Run.{Run}
use Rattle.board.proofs.Guarantees.{orders_stand}
use Rattle.board.proofs.Rankings.{reached_by}

-- what a run serves and keeps, if its rows are those given and its rankings agree with the orders
module _ {A B P : Type 0} (view : P → View) (m p : Sequence) (r : Run A B P) (rows : List Row) (same : rows_in r ≡ rows) where
  pub serves : Agrees m.before rows (memory_ranking r) → Agrees p.before rows (processor_ranking r) → ServesBy view rows m.before p.before r
  serves am ap' =
      subst (λ z. Agrees m.before z (memory_ranking r) → Agrees p.before z (processor_ranking r) → ServesBy view z m.before p.before r) same
      (λ bm bp past s. reached_by view r.rating m p (memory_ranking r) (processor_ranking r) bm bp r refl past s) am ap'

  pub assured : New r → AssuredBy view rows m.before p.before r
  assured begun = subst (λ z. AssuredBy view z m.before p.before r) same (orders_stand A B P view r begun m p)
