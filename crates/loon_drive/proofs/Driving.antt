-- A netlist with buffers and with room for models, and what exchanges of its cells come to.
use Rattle.std.proofs.Common.{◌≡◌, ◌≤◌, ◌+◌, ℕ, List, length, false, sym, ap, ◌∙◌, subst}
use Rattle.std.proofs.Math.Nat.{le-max_right}
use Rattle.cell_model.specs.Library.{Library}
use Rattle.cell_checks.specs.Checked.{IsChecked as HasPassed}
use Rattle.net_core.specs.Places.{IsThere}
use Rattle.net_core.specs.Netlist.{Netlist, IsNetlist}
use Rattle.delay_sta.specs.Paths.{IsWorst}
use Rattle.delay_sta.specs.Timed.{CanBeTimed}
use Rattle.loon_buffer.specs.Drives.{OnlyExchanges}
use Rattle.loon_fanout.specs.Sinks.{all_sinks}
use Rattle.loon_fanout.specs.Laws.{IsTied, BufferedPasses}
use Rattle.loon_fanout.specs.Limited.{IsBuffered, HasFewGates, IsOfCells, StaysRight}
use Rattle.loon_drive.specs.Driven.{most_sinks}
use Rattle.loon_drive.specs.Laws.{AreExchanged, RightStays}

module _ (n : Netlist) (l : Library) (limit : ℕ) (r now : Netlist) (same : now ≡ record r { models = now.models }) where
  -- more models can be given
  buffered_again : IsBuffered n l limit r → IsBuffered n l limit now
  buffered_again b = subst (λ (k : Netlist). IsBuffered n l limit k) (sym same) (record {
    name = b.name;
    repeater = b.repeater;
    chosen = b.chosen;
    names = b.names;
    named = b.named;
    wired = b.wired;
    limited = b.limited;
    is = record { ports = b.is.ports; instances = b.is.instances; classes = b.is.classes };
  })

  pub timed_again : BufferedPasses → HasPassed false l → IsNetlist n → IsNetlist now → IsOfCells n l → IsTied n → CanBeTimed l n → IsBuffered n l limit r → IsOfCells r l
      → CanBeTimed l now
  timed_again law passed sound sound_now cells tied t b still =
      let p = law false t.all n l limit now t.table passed sound sound_now cells tied t.listed t.fits t.passes (buffered_again b) in
      record {
        all = t.all;
        table = t.table;
        listed = t.listed;
        fits = p.0;
        passes = p.1;
        usable = λ i at. let f = still.found i (subst (λ (k : Netlist). IsThere k.instances i) same at) in (f.0, f.1, f.2);
      }

  -- the exchanged netlist can be given the same models
  models_now : (k : Netlist) → OnlyExchanges l now k → now ≡ record r { models = k.models }
  models_now k e = same ∙ ap with_models (sym (ap (λ (x : Netlist). x.models) e.now)) where
    with_models : List (List ℕ) → Netlist
    with_models ms = record r { models = ms }

  pub are : (k : Netlist) → OnlyExchanges l now k → AreExchanged l r k
  are k e = subst (λ (x : Netlist). OnlyExchanges l x k) (models_now k e) e

  pub no_slower_again : (k : Netlist) (delay : ℕ) → OnlyExchanges l now k → ((before : ℕ) → IsWorst now l before → delay ≤ before)
      → (before : ℕ) → IsWorst (record r { models = k.models }) l before → delay ≤ before
  no_slower_again k delay e law before was = law before (subst (λ (x : Netlist). IsWorst x l before) (sym (models_now k e)) was)

  pub right_again : RightStays → (k : Netlist) → IsNetlist r → OnlyExchanges l now k → StaysRight n l r → StaysRight n l k
  right_again law k sound e stays = λ m checked right. law l r k m sound (are k e) (stays m checked right)

  -- exchanges put in no gates
  pub few_again : (k : Netlist) → OnlyExchanges l now k → HasFewGates n l r → HasFewGates n l k
  few_again k e few =
      subst (λ (many : ℕ). many ≤ length n.instances + length (all_sinks l n.instances)) (sym (e.many ∙ ap (λ (x : Netlist). length x.instances) same)) few

-- what words ask for is 4 or more
pub most_is_four : (fanout limit : ℕ) → limit ≡ most_sinks fanout → 4 ≤ limit
most_is_four fanout limit is = subst (λ (m : ℕ). 4 ≤ m) (sym is) (le-max_right fanout 4)
