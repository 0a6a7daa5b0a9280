-- The words and the files decide what `druc` answers.
use Rattle.std.proofs.Common.{◌≡◌, ℕ, ◌<◌, false, List, [], ◌∷◌, ◌++◌, map, length, get_or, refl, sym, ap, ◌∙◌, subst, arith}
use Rattle.std.specs.Prelude.{Result, Ok, Err}
use Rattle.vlsi_base.specs.declared.fault.FaultKind.TheVariants as kind
use Rattle.vlsi_base.specs.declared.fault.Limit.{Limit}
use Rattle.vlsi_base.specs.declared.fault.LimitKind.TheVariants.{Size}
use Rattle.vlsi_base.specs.declared.fault.ReadError.TheVariants as reading
use Rattle.vlsi_base.specs.Member.{In, here, there, Picks, done, takes, skips, pairs}
use Rattle.vlsi_base.specs.Names.{scalar}
use Rattle.sym_geom.specs.declared.item.Item.{Item}
use Rattle.sym_geom.specs.declared.item.Instance.{Instance as Placed}
use Rattle.sym_shapes.specs.Shape.{Shape}
use Rattle.ap_io.specs.declared.figure.Figure.{Figure}
use Rattle.ap_io.specs.ApText.{IsApText}
use Rattle.ap_io.specs.Refusal.{IsApRefusal, Refused}
use Rattle.ap_io.proofs.Once as layouts
use Rattle.cell_model.specs.Library.{Library, cell_of}
use Rattle.cell_model.specs.Layout.{instances_of, shapes}
use Rattle.cell_lib.specs.Library.{IsLibraryOf, status_of}
use Rattle.net_meaning.specs.Breaches.{Breach, width, gap, IsNarrow, AreTooNear, Breaches}
use Rattle.cougar_extract.specs.Extracted.{AreKnown}
use Rattle.cougar_extract.specs.Refused.{IsFirstUnknown}
use Rattle.druc_rules.specs.declared.breach.Breach.{Breach as Found}
use Rattle.druc_rules.specs.declared.breach.Breach.TheVariants as breach
use Rattle.druc_rules.specs.Breaches.{breach_of}
use Rattle.druc_run.specs.declared.words.DrucCommand.{DrucCommand}
use Rattle.druc_run.specs.Druc.{druc_plan, AreListed, IsDrucRefusal, no_library, bad_layout, unknown_cell, too_large, broken, druc_answers}
use Rattle.druc_run.specs.Report.{report}
use Rattle.tool_drive.specs.declared.status.Status.{Status}
use Rattle.tool_drive.specs.declared.status.Status.TheVariants as status
use Rattle.tool_drive.specs.declared.status.Verdict.TheVariants.{Broken}
use Rattle.tool_drive.specs.declared.tool.Product.{Product}
use Rattle.tool_drive.specs.declared.tool.Refusal.{Refusal}
use Rattle.tool_drive.specs.Plan.{Inputs}
use Rattle.tool_drive.specs.Refusals.{OfFile, whole_fault}
use Rattle.tool_drive.specs.Table.{status_of as answered}
use Rattle.flow_run.specs.Same.{AreSameCells}
use Rattle.flow_run.specs.OneLibrary.{LibraryIsNeverRefused, LibrariesAreSame}
use Rattle.flow_run.specs.OneRefusal.{LibraryHasOneRefusal}
use Rattle.flow_run.proofs.Runs.{as_status, Told, runs_agree}
use Rattle.tool_laws.specs.OneStatus.{AreSame, DrucHasOneStatus}
use Rattle.tool_laws.proofs.Shapes.{cell_same, lacking_too, had_too, shapes_same}

-- ---- breaches

-- what is picked out of a list is told by what it is picked for
picked_once : {A : Type 0} (P : A → Type 0) (xs ys zs : List A) → Picks P xs ys → Picks P xs zs → ys ≡ zs
picked_once P _ _ _ done done = refl
picked_once P _ _ _ (takes {x = x} {xs = xs} {ys = ys} h p) (takes {ys = zs} k q) = ap (λ l. x ∷ l) (picked_once P xs ys zs p q)
picked_once P _ _ _ (takes h p) (skips k q) = absurd (k h)
picked_once P _ _ _ (skips h p) (takes k q) = absurd (h k)
picked_once P _ _ zs (skips {xs = xs} {ys = ys} h p) (skips k q) = picked_once P xs ys zs p q

breaches_once : (items : List Item) (l k : Library) (found other : List Breach) → shapes items l ≡ shapes items k → Breaches items l found → Breaches items k other → found ≡ other
breaches_once items l k found other same b d =
    let widths : Picks IsNarrow (shapes items k) b.narrow = subst (λ (all : List Shape). Picks IsNarrow all b.narrow) same b.widths in
    let gaps : Picks (λ p. AreTooNear (shapes items k) p.0 p.1) (pairs (shapes items k)) b.near =
    subst (λ (all : List Shape). Picks (λ p. AreTooNear all p.0 p.1) (pairs all) b.near) same b.gaps in
    let narrow : b.narrow ≡ d.narrow = picked_once IsNarrow (shapes items k) b.narrow d.narrow widths d.widths in
    let near : b.near ≡ d.near = picked_once (λ p. AreTooNear (shapes items k) p.0 p.1) (pairs (shapes items k)) b.near d.near gaps d.gaps in
    b.listed
    ∙ ap (λ (ss : List Shape). map (λ s. width s.metal s.rect) ss ++ map (λ p. gap p.0.metal p.0.rect p.1.rect) b.near) narrow
    ∙ ap (λ (ps : List (Shape × Shape)). map (λ s. width s.metal s.rect) d.narrow ++ map (λ p. gap p.0.metal p.0.rect p.1.rect) ps) near
    ∙ sym d.listed

-- a breach and what it is told as
abbrev told_of : Breach → Found
told_of (width metal rect) = breach.Width metal rect
told_of (gap metal a b) = breach.Gap metal a b

told_again : (found : List Found) → map told_of (map breach_of found) ≡ found
told_again [] = refl
told_again (breach.Width metal rect ∷ found) = ap (λ (l : List Found). breach.Width metal rect ∷ l) (told_again found)
told_again (breach.Gap metal a b ∷ found) = ap (λ (l : List Found). breach.Gap metal a b ∷ l) (told_again found)

-- ---- instances

data Places (xs ys : List Placed) (s t : Placed) : Type 0 where
  one : s ≡ t → Places xs ys s t
  earlier : In t xs → Places xs ys s t
  later : In s ys → Places xs ys s t

places : (xs ys : List Placed) (s t : Placed) (us vs : List Placed) → xs ++ s ∷ us ≡ ys ++ t ∷ vs → Places xs ys s t
places [] [] s t us vs e = one cc
places [] (y ∷ ys) s t us vs e = let same : y ≡ s = cc in later (subst (λ (x : Placed). In x (y ∷ ys)) same here)
places (x ∷ xs) [] s t us vs e = let same : x ≡ t = cc in earlier (subst (λ (y : Placed). In y (x ∷ xs)) same here)
places (x ∷ xs) (y ∷ ys) s t us vs e = by (places xs ys s t us vs cc) where
  by : Places xs ys s t → Places (x ∷ xs) (y ∷ ys) s t
  by (one same) = one same
  by (earlier i) = earlier (there i)
  by (later i) = later (there i)

in_middle : (before behind : List Placed) (i : Placed) → In i (before ++ i ∷ behind)
in_middle [] behind i = here
in_middle (b ∷ before) behind i = there (in_middle before behind i)

module _ (l k : Library) (same : AreSameCells l.cells k.cells) where
  known_or_not : (is : List Placed) (model : List ℕ) → AreKnown is l → IsFirstUnknown is k model → ⊥
  known_or_not is model known u =
      let i : In u.instance is = subst (λ (js : List Placed). In u.instance js) (sym u.all_are) (in_middle u.before u.behind u.instance) in
      let c = known u.instance i in
      had_too (cell_of l u.instance.model) (cell_of k u.instance.model) (cell_same l k same u.instance.model) c.0 c.1 u.unknown

  unknown_once : (is : List Placed) (m n : List ℕ) → IsFirstUnknown is l m → IsFirstUnknown is k n → m ≡ n
  unknown_once is m n u v = by (places u.before v.before u.instance v.instance u.behind v.behind (sym u.all_are ∙ v.all_are)) where
    by : Places u.before v.before u.instance v.instance → m ≡ n
    by (one e) = u.model_is ∙ ap (λ (i : Placed). i.model) e ∙ sym v.model_is
    by (earlier i) =
        let c = u.known v.instance i in
        absurd (had_too (cell_of l v.instance.model) (cell_of k v.instance.model) (cell_same l k same v.instance.model) c.0 c.1 v.unknown)
    by (later i) =
        let c = v.known u.instance i in
        absurd (lacking_too (cell_of l u.instance.model) (cell_of k u.instance.model) (cell_same l k same u.instance.model) u.unknown c.0 c.1)

-- ---- layouts

told_layout : (file source : List ℕ) (s : Status) → OfFile file (IsApRefusal source) s → Told file (Refused source) s
told_layout file source (status.Source name fault) h = record { error = reading.Input fault; is_refused = h.1; is = ap (λ (n : List ℕ). status.Source n fault) h.0 }
told_layout file source (status.Limit l) h = record { error = reading.Limit l; is_refused = h; is = refl }
told_layout file source _ h = absurd h

layout_once : (file source : List ℕ) (s t : Status) → OfFile file (IsApRefusal source) s → OfFile file (IsApRefusal source) t → s ≡ t
layout_once file source s t h g =
    let p = told_layout file source s h in
    let q = told_layout file source t g in
    p.is ∙ ap (as_status file) (layouts.one_refusal source p.error q.error p.is_refused q.is_refused) ∙ sym q.is

layout_or_not : (file source : List ℕ) (f : Figure) (s : Status) → IsApText source f → OfFile file (IsApRefusal source) s → ⊥
layout_or_not file source f s is h = let p = told_layout file source s h in layouts.never_both source f p.error is p.is_refused

-- ---- all answers

module _ (never : LibraryIsNeverRefused) (refused : LibraryHasOneRefusal) (libraries : LibrariesAreSame) (c : DrucCommand) (source catal : List ℕ) (cells : List (List ℕ)) where
  same_cells : (l k : Library) → IsLibraryOf false catal cells l → IsLibraryOf false catal cells k → AreSameCells l.cells k.cells
  same_cells l k h g = libraries false false catal cells l k h g

  figures : (f g : Figure) → IsApText source f → IsApText source g → f ≡ g
  figures f g h k = layouts.one_figure source f g h k

  listed_once : (found other : List Found) → AreListed source catal cells found → AreListed source catal cells other → found ≡ other
  listed_once found other a b =
      let figure : b.f ≡ a.f = figures b.f a.f b.figure a.figure in
      let breaches : Breaches a.f.items b.l (map breach_of other) = subst (λ (f : Figure). Breaches f.items b.l (map breach_of other)) figure b.breaches in
      let all : map breach_of found ≡ map breach_of other =
      breaches_once a.f.items a.l b.l (map breach_of found) (map breach_of other) (shapes_same a.l b.l (same_cells a.l b.l a.library b.library) a.f.items) a.breaches breaches in
      sym (told_again found) ∙ ap (map told_of) all ∙ told_again other

  -- what is known of a layout whose breaches are listed, as of another reading
  listed_or_not : (found : List Found) (s : Status) → AreListed source catal cells found → IsDrucRefusal c source catal cells s
      → (other : List Found) × AreListed source catal cells other × (0 < length other) × (s ≡ status.No (Broken (report other)))
  listed_or_not found s a (no_library e r is) = absurd (never false catal cells a.l e a.library r)
  listed_or_not found s a (bad_layout l library h) = absurd (layout_or_not c.source source a.f s a.figure h)
  listed_or_not found s a (unknown_cell l f model library text first is) =
      absurd (known_or_not a.l l (same_cells a.l l a.library library) (instances_of a.f.items) model a.known
      (subst (λ (g : Figure). IsFirstUnknown (instances_of g.items) l model) (figures f a.f text a.figure) first))
  listed_or_not found s a (too_large l f limit library text known large is) =
      let shown : shapes f.items l ≡ shapes a.f.items a.l =
      ap (λ (g : Figure). shapes g.items l) (figures f a.f text a.figure) ∙ shapes_same l a.l (same_cells l a.l library a.library) a.f.items in
      let long : length (shapes f.items l) ≡ length (shapes a.f.items a.l) = ap (λ (ss : List Shape). length ss) shown in
      let few = a.few in
      let many = large.many in
      absurd (omega (arith, long, few, many))
  listed_or_not found s a (broken other b some is) = (other, b, some, is)

  refusals_once : (s t : Status) → IsDrucRefusal c source catal cells s → IsDrucRefusal c source catal cells t → s ≡ t
  refusals_once s t (broken found a some is) h =
      let r = listed_or_not found t a h in is ∙ ap (λ (l : List Found). status.No (Broken (report l))) (listed_once found r.0 a r.1) ∙ sym r.3
  refusals_once s t h (broken found a some is) =
      let r = listed_or_not found s a h in r.3 ∙ ap (λ (l : List Found). status.No (Broken (report l))) (listed_once r.0 found r.1 a) ∙ sym is
  refusals_once s t (no_library d p is) (no_library e q also) = is ∙ ap status_of (refused false catal cells d e p q) ∙ sym also
  refusals_once s t (no_library d p is) (bad_layout l library h) = absurd (never false catal cells l d library p)
  refusals_once s t (no_library d p is) (unknown_cell l f model library text first also) = absurd (never false catal cells l d library p)
  refusals_once s t (no_library d p is) (too_large l f limit library text known large also) = absurd (never false catal cells l d library p)
  refusals_once s t (bad_layout l library h) (no_library e q also) = absurd (never false catal cells l e library q)
  refusals_once s t (bad_layout l library h) (bad_layout k other g) = layout_once c.source source s t h g
  refusals_once s t (bad_layout l library h) (unknown_cell k f model other text first also) = absurd (layout_or_not c.source source f s text h)
  refusals_once s t (bad_layout l library h) (too_large k f limit other text known large also) = absurd (layout_or_not c.source source f s text h)
  refusals_once s t (unknown_cell l f model library text first is) (no_library e q also) = absurd (never false catal cells l e library q)
  refusals_once s t (unknown_cell l f model library text first is) (bad_layout k other h) = absurd (layout_or_not c.source source f t text h)
  refusals_once s t (unknown_cell l f model library text first is) (unknown_cell k g name other read second also) =
      let moved : IsFirstUnknown (instances_of f.items) k name = subst (λ (x : Figure). IsFirstUnknown (instances_of x.items) k name) (figures g f read text) second in
      is ∙ ap (λ (m : List ℕ). whole_fault c.source kind.UnknownCell (scalar m ∷ [])) (unknown_once l k (same_cells l k library other) (instances_of f.items) model name first moved)
      ∙ sym also
  refusals_once s t (unknown_cell l f model library text first is) (too_large k g limit other read known large also) =
      let moved : IsFirstUnknown (instances_of g.items) l model = subst (λ (x : Figure). IsFirstUnknown (instances_of x.items) l model) (figures f g text read) first in
      absurd (known_or_not k l (same_cells k l other library) (instances_of g.items) model known moved)
  refusals_once s t (too_large l f limit library text known large is) (no_library e q also) = absurd (never false catal cells l e library q)
  refusals_once s t (too_large l f limit library text known large is) (bad_layout k other h) = absurd (layout_or_not c.source source f t text h)
  refusals_once s t (too_large l f limit library text known large is) (unknown_cell k g model other read first also) =
      let moved : IsFirstUnknown (instances_of f.items) k model = subst (λ (x : Figure). IsFirstUnknown (instances_of x.items) k model) (figures g f read text) first in
      absurd (known_or_not l k (same_cells l k library other) (instances_of f.items) model known moved)
  refusals_once s t (too_large l f limit library text known large is) (too_large k g bound other read had wide also) =
      let shown : shapes f.items l ≡ shapes g.items k =
      ap (λ (x : Figure). shapes x.items l) (figures f g text read) ∙ shapes_same l k (same_cells l k library other) g.items in
      is ∙ ap status.Limit (large.limit_is ∙ ap (λ (ss : List Shape). let r : Limit = record { which = Size; reached = length ss } in r) shown ∙ sym wide.limit_is) ∙ sym also

  -- a layout without breaches isn't refused
  clean_or_not : (s : Status) → AreListed source catal cells [] → IsDrucRefusal c source catal cells s → ⊥
  clean_or_not s a h =
      let r = listed_or_not [] s a h in
      let none : length r.0 ≡ 0 = ap (λ (l : List Found). length l) (sym (listed_once [] r.0 a r.1)) in
      let some = r.2 in
      omega (arith, none, some)

answers_once : LibraryIsNeverRefused → LibraryHasOneRefusal → LibrariesAreSame → (c : DrucCommand) (i : Inputs) (r q : Result Product Refusal) → druc_answers c i r → druc_answers c i q
    → answered r ≡ answered q
answers_once never refused libraries c i (Ok p) (Ok u) a b = refl
answers_once never refused libraries c i (Ok p) (Err q) a b =
    absurd (clean_or_not never refused libraries c (get_or i.first 0 []) (get_or i.first 1 []) i.more q.status a.none b.1)
answers_once never refused libraries c i (Err r) (Ok p) a b =
    absurd (clean_or_not never refused libraries c (get_or i.first 0 []) (get_or i.first 1 []) i.more r.status b.none a.1)
answers_once never refused libraries c i (Err r) (Err q) a b =
    refusals_once never refused libraries c (get_or i.first 0 []) (get_or i.first 1 []) i.more r.status q.status a.1 b.1

pub druc_has_one_status : LibraryIsNeverRefused → LibraryHasOneRefusal → LibrariesAreSame → DrucHasOneStatus
druc_has_one_status never refused libraries c = runs_agree (druc_plan c) (druc_answers c) AreSame (λ s t e. e) (answers_once never refused libraries c)
