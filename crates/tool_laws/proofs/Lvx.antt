-- The words and the files decide what `lvx` answers.
use Rattle.std.proofs.Common.{◌≡◌, ◌⊎◌, inl, inr, ℕ, true, false, List, refl, sym, ap, ◌∙◌, subst}
use Rattle.std.specs.Prelude.{Result, Ok, Err}
use Rattle.vlsi_base.specs.declared.name.Name.{Name}
use Rattle.vlsi_base.specs.declared.name.Terminal.{Terminal}
use Rattle.vlsi_base.specs.declared.fault.ReadError.TheVariants as reading
use Rattle.net_core.specs.declared.pins.ModelPins.{ModelPins}
use Rattle.net_core.specs.Netlist.{Netlist, port, pin_of}
use Rattle.net_right.specs.Same.{HasInstance, AreJoined}
use Rattle.vst_io.specs.Text.{IsVst, IsVstRefusal, Refused}
use Rattle.vst_io.specs.Laws.{AreAlike, IsRingFault, OneNetlist, NeverBoth, OneRefusal}
use Rattle.cell_model.specs.Library.{Library}
use Rattle.cell_lib.specs.Library.{status_of}
use Rattle.lvx_compare.specs.Compared.{HasPort, AreSame as AreSameNetlists, OnlyOne, HasOtherMembers, DiffersAtPort, lacking, members, DiffersAtInstance, modelled, joined, IsInstanceAtFault, IsDifference, at_port, at_instance}
use Rattle.lvx_compare.specs.declared.comparing.Verdict.TheVariants as verdict
use Rattle.lvx_compare.proofs.Whole.{exactly_different}
use Rattle.lvx_run.specs.declared.words.LvxCommand.{LvxCommand}
use Rattle.lvx_run.specs.Lvx.{lvx_plan, Texts, texts, AreCells, AreRead, IsSame, IsUnread, IsLvxRefusal, no_library, unread, different, lvx_answers}
use Rattle.tool_drive.specs.declared.status.Status.{Status}
use Rattle.tool_drive.specs.declared.status.Status.TheVariants as status
use Rattle.tool_drive.specs.declared.status.Verdict.TheVariants.{Different}
use Rattle.tool_drive.specs.declared.tool.Product.{Product}
use Rattle.tool_drive.specs.declared.tool.Refusal.{Refusal}
use Rattle.tool_drive.specs.Plan.{Inputs}
use Rattle.tool_drive.specs.Refusals.{OfFile}
use Rattle.tool_drive.specs.Table.{status_of as answered}
use Rattle.flow_run.specs.OneLibrary.{LibraryIsNeverRefused}
use Rattle.flow_run.specs.OneRefusal.{LibraryHasOneRefusal}
use Rattle.flow_run.proofs.Runs.{as_status, Told, runs_agree}
use Rattle.tool_laws.specs.OneStatus.{TablesAreOne, AreSameOrRings, AgreeOnNetlists, LvxHasOneStatus}

-- ---- netlists of a text

told_netlist : (file source : List ℕ) (table : List ModelPins) (s : Status) → OfFile file (IsVstRefusal source table) s → Told file (Refused source table) s
told_netlist file source table (status.Source name fault) h = record { error = reading.Input fault; is_refused = h.1; is = ap (λ (n : List ℕ). status.Source n fault) h.0 }
told_netlist file source table (status.Limit l) h = record { error = reading.Limit l; is_refused = h; is = refl }
told_netlist file source table _ h = absurd h

netlist_once : OneRefusal → (file source : List ℕ) (table : List ModelPins) (s t : Status) → OfFile file (IsVstRefusal source table) s → OfFile file (IsVstRefusal source table) t
    → AreSameOrRings file s t
netlist_once once file source table s t h g = by (once source table p.error q.error p.is_refused q.is_refused) where
  p : Told file (Refused source table) s
  p = told_netlist file source table s h

  q : Told file (Refused source table) t
  q = told_netlist file source table t g

  by : (p.error ≡ q.error) ⊎ (IsRingFault p.error × IsRingFault q.error) → AreSameOrRings file s t
  by (inl e) = inl (p.is ∙ ap (as_status file) e ∙ sym q.is)
  by (inr e) = inr ((1, e.0.0, p.is ∙ ap (as_status file) e.0.1), (1, e.1.0, q.is ∙ ap (as_status file) e.1.1))

netlist_or_not : NeverBoth → (file source : List ℕ) (table : List ModelPins) (n : Netlist) (s : Status) → IsVst source table n → OfFile file (IsVstRefusal source table) s → ⊥
netlist_or_not never file source table n s is h = let p = told_netlist file source table s h in never source table n p.error is p.is_refused

-- ---- netlists that are alike

abbrev with_models : Netlist → List (List ℕ) → Netlist
with_models n models = record n { models = models }

same_but_models : (n : Netlist) (models : List (List ℕ)) → AreSameNetlists n (with_models n models)
same_but_models n models = record {
  ports = λ name. (λ h. h, λ h. h);
  instances = λ name model. (
    λ h. record { instance = h.instance; listed = h.listed; named = h.named; modelled = h.modelled },
    λ h. record { instance = h.instance; listed = h.listed; named = h.named; modelled = h.modelled },
  );
  classes = λ s t. (λ h. record { class = h.class; first = h.first; second = h.second }, λ h. record { class = h.class; first = h.first; second = h.second });
}

alike_same : (n k : Netlist) → AreAlike n k → AreSameNetlists n k
alike_same n k e = subst (λ (m : Netlist). AreSameNetlists n m) (sym e) (same_but_models n k.models)

only_moves : (P Q R S : Type 0) → (P → R) → (R → P) → (Q → S) → (S → Q) → OnlyOne P Q → OnlyOne R S
only_moves P Q R S pr rp qs sq (inl h) = inl (pr h.0, λ s. h.1 (sq s))
only_moves P Q R S pr rp qs sq (inr h) = inr (qs h.0, λ r. h.1 (rp r))

-- a difference of two netlists is one of two that are the same as these
module _ (a b c d : Netlist) (left : AreSameNetlists a c) (right : AreSameNetlists b d) where
  members_move : (t : Terminal) → HasOtherMembers a b t → HasOtherMembers c d t
  members_move t h =
      (h.0, only_moves (AreJoined a t h.0) (AreJoined b t h.0) (AreJoined c t h.0) (AreJoined d t h.0) (left.classes t h.0).0 (left.classes t h.0).1 (right.classes t h.0).0 (right.classes t h.0).1 h.1)

  port_moves : (name : Name) → DiffersAtPort a b name → DiffersAtPort c d name
  port_moves name (lacking o) =
      lacking (only_moves (HasPort a name) (HasPort b name) (HasPort c name) (HasPort d name) (left.ports name).0 (left.ports name).1 (right.ports name).0 (right.ports name).1 o)
  port_moves name (members m) = members (members_move (port name) m)

  instance_moves : (name : List ℕ) → DiffersAtInstance a b name → DiffersAtInstance c d name
  instance_moves name (modelled model o) =
      modelled model (only_moves (HasInstance a name model) (HasInstance b name model) (HasInstance c name model) (HasInstance d name model)
      (left.instances name model).0 (left.instances name model).1 (right.instances name model).0 (right.instances name model).1 o)
  instance_moves name (joined pin m) = joined pin (members_move (pin_of name pin) m)

  fault_moves : (name : Name) → IsInstanceAtFault a b name → IsInstanceAtFault c d name
  fault_moves name h = record { scalar = h.scalar; differs = instance_moves name.text h.differs }

module _ (a b c d : Netlist) (left : AreSameNetlists a c) (right : AreSameNetlists b d) (left_back : AreSameNetlists c a) (right_back : AreSameNetlists d b) where
  difference_moves : (name : Name) → IsDifference a b name → IsDifference c d name
  difference_moves name (at_port l) = at_port (record {
    holds = port_moves a b c d left right name l.holds;
    least = λ other h. l.least other (port_moves c d a b left_back right_back other h);
  })
  difference_moves name (at_instance none l) = at_instance (λ other h. none other (port_moves c d a b left_back right_back other h)) (record {
    holds = fault_moves a b c d left right name l.holds;
    least = λ other h. l.least other (fault_moves c d a b left_back right_back other h);
  })

-- ---- all answers

module _ (never : LibraryIsNeverRefused) (refused : LibraryHasOneRefusal) (tables : TablesAreOne) (one : OneNetlist) (netlists : NeverBoth) (once : OneRefusal)
    (c : LvxCommand) (t : Texts) where
  table_once : (l k : Library) (u v : List ModelPins) → AreCells t l u → AreCells t k v → u ≡ v
  table_once l k u v a b = tables false false t.catal t.cells l k true u v a.library b.library a.pins b.pins

  alike_of : (source : List ℕ) (u v : List ModelPins) (a b : Netlist) → u ≡ v → IsVst source u a → IsVst source v b → AreSameNetlists a b
  alike_of source u v a b e h g = alike_same a b (one source v a b (subst (λ (w : List ModelPins). IsVst source w a) e h) g)

  -- the files are read, or they aren't
  read_or_not : (a b : Netlist) (s : Status) → AreRead t a b → (l : Library) (table : List ModelPins) → AreCells t l table → IsUnread c t.source t.other table s → ⊥
  read_or_not a b s r l table cells (inl h) =
      let e = table_once r.l l r.table table r.cells cells in
      netlist_or_not netlists c.source t.source table a s (subst (λ (w : List ModelPins). IsVst t.source w a) e r.first) h
  read_or_not a b s r l table cells (inr h) =
      let e = table_once r.l l r.table table r.cells cells in
      netlist_or_not netlists c.other t.other table b s (subst (λ (w : List ModelPins). IsVst t.other w b) e r.second) h.2

  unread_once : (table : List ModelPins) (s u : Status) → IsUnread c t.source t.other table s → IsUnread c t.source t.other table u → AgreeOnNetlists c s u
  unread_once table s u (inl h) (inl g) = inl (netlist_once once c.source t.source table s u h g)
  unread_once table s u (inl h) (inr g) = absurd (netlist_or_not netlists c.source t.source table g.0 s g.1 h)
  unread_once table s u (inr h) (inl g) = absurd (netlist_or_not netlists c.source t.source table h.0 u h.1 g)
  unread_once table s u (inr h) (inr g) = elim (netlist_once once c.other t.other table s u h.2 g.2) [
    | inl e ↦ inl (inl e)
    | inr two ↦ inr two
  ]

  -- two readings of both files differ alike
  read_again : (a b n m : Netlist) → AreRead t a b → AreRead t n m → AreSameNetlists a n × AreSameNetlists b m
  read_again a b n m r q =
      let e = table_once r.l q.l r.table q.table r.cells q.cells in
      (alike_of t.source r.table q.table a n e r.first q.first, alike_of t.other r.table q.table b m e r.second q.second)

  difference_once : (a b n m : Netlist) (x y : Name) → AreRead t a b → AreRead t n m → IsDifference a b x → IsDifference n m y → x ≡ y
  difference_once a b n m x y r q d f =
      let two = read_again a b n m r q in
      let back = read_again n m a b q r in
      let own : IsDifference a b y = difference_moves n m a b back.0 back.1 two.0 two.1 y f in
      let told : verdict.Different x ≡ verdict.Different y = (exactly_different a b (verdict.Different x) d y).1 own in
      cc

  same_or_not : (a b n m : Netlist) (y : Name) → AreRead t a b → AreRead t n m → AreSameNetlists a b → IsDifference n m y → ⊥
  same_or_not a b n m y r q s f =
      let two = read_again a b n m r q in
      let back = read_again n m a b q r in
      let own : IsDifference a b y = difference_moves n m a b back.0 back.1 two.0 two.1 y f in
      let told : verdict.Same ≡ verdict.Different y = (exactly_different a b verdict.Same s y).1 own in
      absurd (cc told)

  refusals_once : (s u : Status) → IsLvxRefusal c t s → IsLvxRefusal c t u → AgreeOnNetlists c s u
  refusals_once s u (no_library d p is) (no_library e q also) = inl (inl (is ∙ ap status_of (refused false t.catal t.cells d e p q) ∙ sym also))
  refusals_once s u (no_library d p is) (unread l table cells h) = absurd (never false t.catal t.cells l d cells.library p)
  refusals_once s u (no_library d p is) (different a b name r f also) = absurd (never false t.catal t.cells r.l d r.cells.library p)
  refusals_once s u (unread l table cells h) (no_library e q also) = absurd (never false t.catal t.cells l e cells.library q)
  refusals_once s u (unread l table cells h) (unread k other more g) =
      let e = table_once k l other table more cells in
      unread_once table s u h (subst (λ (w : List ModelPins). IsUnread c t.source t.other w u) e g)
  refusals_once s u (unread l table cells h) (different a b name r f also) = absurd (read_or_not a b s r l table cells h)
  refusals_once s u (different a b name r f is) (no_library e q also) = absurd (never false t.catal t.cells r.l e r.cells.library q)
  refusals_once s u (different a b name r f is) (unread l table cells h) = absurd (read_or_not a b u r l table cells h)
  refusals_once s u (different a b x r f is) (different n m y q g also) =
      inl (inl (is ∙ ap (λ (name : Name). status.No (Different name)) (difference_once a b n m x y r q f g) ∙ sym also))

  accepted_or_not : (s : Status) → IsSame t → IsLvxRefusal c t s → ⊥
  accepted_or_not s a (no_library d p is) = never false t.catal t.cells a.read.l d a.read.cells.library p
  accepted_or_not s a (unread l table cells h) = read_or_not a.a a.b s a.read l table cells h
  accepted_or_not s a (different n m y q f is) = same_or_not a.a a.b n m y a.read q a.same f

module _ (never : LibraryIsNeverRefused) (refused : LibraryHasOneRefusal) (tables : TablesAreOne) (one : OneNetlist) (netlists : NeverBoth) (once : OneRefusal) where
  lvx_once : (c : LvxCommand) (i : Inputs) (r q : Result Product Refusal) → lvx_answers c i r → lvx_answers c i q → AgreeOnNetlists c (answered r) (answered q)
  lvx_once c i (Ok p) (Ok u) a b = inl (inl refl)
  lvx_once c i (Ok p) (Err q) a b = absurd (accepted_or_not never refused tables one netlists once c (texts i.first i.more) q.status a.3 b.1)
  lvx_once c i (Err r) (Ok p) a b = absurd (accepted_or_not never refused tables one netlists once c (texts i.first i.more) r.status b.3 a.1)
  lvx_once c i (Err r) (Err q) a b = refusals_once never refused tables one netlists once c (texts i.first i.more) r.status q.status a.1 b.1

  pub lvx_has_one_status : LvxHasOneStatus
  lvx_has_one_status c = runs_agree (lvx_plan c) (lvx_answers c) (AgreeOnNetlists c) (λ s t e. inl (inl e)) (lvx_once c)
