-- What the loops of extraction are lent at a step.
use Rattle.std.proofs.Common.{◌≡◌, ◌⊎◌, inl, inr, ◌↔◌, ℕ, ◌+◌, ◌<◌, Bool, append-nil, List, [], ◌∷◌, ◌++◌, map, length, take, get_or, Option, None, Some, All, refl, sym, ap, subst, ◌∙◌, append_assoc}
use Rattle.std.specs.Prelude.{slice_get, option_map}
use Rattle.std.proofs.lemmas.List.{take_more}
use Rattle.std.proofs.lemmas.Option.{slice_get_within, slice_get_read, get_or_from_slice_get}
use Rattle.vlsi_base.specs.declared.name.Name.{Name}
use Rattle.vlsi_base.specs.Member.{In, here, there}
use Rattle.sym_geom.specs.declared.item.Instance.{Instance as Placed}
use Rattle.sym_geom.specs.declared.item.Item.{Item}
use Rattle.sym_shapes.specs.Shape.{Shape}
use Rattle.sym_shapes.specs.Joined.{Joined, itself, through, one_name, Shows, AreJoined}
use Rattle.sym_shapes.proofs.Labels.{first_In, last_In}
use Rattle.sym_shapes.specs.Chain.{IsChain, Apart}
use Rattle.sym_shapes.proofs.Joins.{joined_then}
use Rattle.cell_model.specs.Cell.{Cell}
use Rattle.cell_model.specs.Library.{Library, cell_of}
use Rattle.cell_model.specs.Layout.{instances_of, instance_shapes, all_instances_show}
use Rattle.cell_model.proofs.Members.{All-In, In-split, In-left, In-right}
use Rattle.cell_pins.proofs.Sound.{member_at}
use Rattle.net_core.specs.declared.error.BuildError.{BuildError}
use Rattle.net_core.specs.declared.error.BuildError.TheVariants as error
use Rattle.net_core.specs.Places.{Stands, IsThere, Learned}
use Rattle.net_core.specs.Netlist.{port}
use Rattle.net_core.specs.Joins.{Draft, draft_terminals, IsNoJoin}
use Rattle.net_core.proofs.Growing.{learned_grows}
use Rattle.net_core.proofs.Learning.{learned_only}
use Rattle.net_core.proofs.Standing.{stands_left}
use Rattle.cougar_extract.specs.declared.links.Link.{Link}
use Rattle.sym_geom.specs.Rect.{IsCoordinate}
use Rattle.cougar_extract.specs.declared.error.Step.{Step}
use Rattle.cougar_extract.specs.declared.error.ExtractError.{ExtractError}
use Rattle.cougar_extract.specs.declared.error.ExtractError.TheVariants as errors
use Rattle.cougar_extract.specs.Extracted.{AreKnown}
use Rattle.cougar_extract.specs.Refused.{IsFirstUnknown, step_of, IsChainOf}
use Rattle.cougar_extract.specs.Stages.{AreLeaders, instance_gives, all_instances_give, IsUnknownRefusal}
use Rattle.cougar_extract.proofs.Adding.{split_at, joined_to, no_join}
use Rattle.cougar_extract.proofs.Instances.{instances_append}

-- an element that was read at its place stands there
pub read_stands : {A : Type 0} (xs : List A) (k : ℕ) (x : A) → k < length xs → x ≡ get_or xs k x → Stands xs k x
read_stands xs k x low is = slice_get_read xs (length xs) k x refl low is

-- ---- shapes of instances that come behind

abbrev pub shows_to : Library → List Item → ℕ → List Shape
shows_to l items k = all_instances_show l (instances_of (take k items))

show_append : (l : Library) (a b : List Placed) → all_instances_show l (a ++ b) ≡ all_instances_show l a ++ all_instances_show l b
show_append l [] b = refl
show_append l (i ∷ rest) b =
    ap (λ (xs : List Shape). instance_shapes (cell_of l i.model) i ++ xs) (show_append l rest b)
    ∙ sym (append_assoc (instance_shapes (cell_of l i.model) i) (all_instances_show l rest) (all_instances_show l b))

give_append : (l : Library) (a b : List Placed) → all_instances_give l (a ++ b) ≡ all_instances_give l a ++ all_instances_give l b
give_append l [] b = refl
give_append l (i ∷ rest) b =
    ap (λ (xs : List Bool). instance_gives (cell_of l i.model) ++ xs) (give_append l rest b)
    ∙ sym (append_assoc (instance_gives (cell_of l i.model)) (all_instances_give l rest) (all_instances_give l b))

-- the instances of the first k + 1 lines
pub placed_next : (items : List Item) (k : ℕ) (one : Item) → Stands items k one → instances_of (take (k + 1) items) ≡ instances_of (take k items) ++ instances_of (one ∷ [])
placed_next items k one at =
    let here_it : get_or items k one ≡ one = get_or_from_slice_get items k one one at in
    ap instances_of (take_more items k one (slice_get_within items k one at) ∙ ap (λ (x : Item). take k items ++ x ∷ []) here_it)
    ∙ instances_append (take k items) (one ∷ [])

-- ---- texts that are learned

pub learned_both : (old new : List (List ℕ)) (t : List ℕ) → Learned old new t → IsThere new t → (u : List ℕ) → IsThere new u ↔ (IsThere old u ⊎ (u ≡ t))
learned_both old new t learned own u = (
  λ h. elim (learned_only old new t learned u h) [ inl o ↦ inl o | inr e ↦ inr (sym e) ],
  λ h. elim h [
    | inl o ↦
        let g = learned_grows old new t learned in
        subst (λ (xs : List (List ℕ)). IsThere xs u) (sym g.1) (o.0, stands_left old g.0 o.0 u o.1)
    | inr e ↦ subst (λ (x : List ℕ). IsThere new x) (sym e) own
  ],
)

-- ---- pairs

-- a leader's place is one of a connector
pub leader_low : (links : List Link) (places : List ℕ) (k : ℕ) (x : Link) → AreLeaders links places → k < length links → x ≡ get_or links k x
    → get_or places x.number 0 < length links
leader_low links places k x led low is =
    let h = led x (member_at links k x (read_stands links k x low is)) in slice_get_within links (get_or places x.number 0) h.leader h.stands

-- both terminals of a pair are there, so that memory alone can lack
pub both_there : (d now : Draft) (links : List Link) (places : List ℕ) (k : ℕ) (x leader : Link) (e : BuildError)
    → All (λ (y : Link). IsThere (draft_terminals d) y.terminal) links → Stands links k x → Stands links (get_or places x.number 0) leader
    → now ≡ joined_to d links places k → IsNoJoin now leader.terminal x.terminal e → e ≡ error.Memory
both_there d now links places k x leader e all at led so_far h =
    let ends : (y : Link) → In y links → IsThere (draft_terminals now) y.terminal =
    λ y i. subst (λ (b : Draft). IsThere (draft_terminals b) y.terminal) (sym so_far) (All-In (λ (z : Link). IsThere (draft_terminals d) z.terminal) links all y i) in
    no_join now leader.terminal x.terminal e (ends leader (member_at links (get_or places x.number 0) leader led)) (ends x (member_at links k x at)) h

-- ---- chains between ports

-- shapes of joined ports are joined, whichever show them
pub any_joined : (all : List Shape) (a b : Name) → AreJoined all (port a) (port b) → (i j : ℕ) (s u : Shape) → Stands all i s → Shows (port a) s → Stands all j u → Shows (port b) u
    → Apart all i j → ⊥
any_joined all a b t i j s u at_s shows_s at_u shows_u apart =
    let first : Joined all s t.from = through (member_at all i s at_s) (one_name (shows_s.owner ∙ sym t.shows_from.owner) a shows_s.name t.shows_from.name) (itself (first_In t.joined)) in
    let last : Joined all t.to u = through (last_In t.joined) (one_name (t.shows_to.owner ∙ sym shows_u.owner) b t.shows_to.name shows_u.name) (itself (member_at all j u at_u)) in
    let chain : Joined all s u = joined_then first (joined_then t.joined last) in
    let place_s : get_or all i s ≡ s = get_or_from_slice_get all i s s at_s in
    let place_u : get_or all j s ≡ u = get_or_from_slice_get all j u s at_u in
    apart s (subst (λ (x : Shape). Joined all (get_or all i s) x) (sym place_u) (subst (λ (x : Shape). Joined all x u) (sym place_s) chain))

-- a port that is joined to another is shown
pub is_shown : (all : List Shape) (a b : Name) → AreJoined all (port a) (port b) → (All (λ (s : Shape). Shows (port a) s → ⊥) all) → ⊥
is_shown all a b t none = All-In (λ (s : Shape). Shows (port a) s → ⊥) all none t.from (first_In t.joined) t.shows_from

pub other_is_shown : (all : List Shape) (a b : Name) → AreJoined all (port a) (port b) → (All (λ (s : Shape). Shows (port b) s → ⊥) all) → ⊥
other_is_shown all a b t none = All-In (λ (s : Shape). Shows (port b) s → ⊥) all none t.to (last_In t.joined) t.shows_to

-- the chain of these places is one between the ports
pub chain_of : (all : List Shape) (a b : Name) (i j : ℕ) (s u : Shape) (places : List ℕ) (steps : List Step) → IsChain all places i j → Stands all i s → Shows (port a) s
    → Stands all j u → Shows (port b) u → map Some steps ≡ map (λ k. option_map step_of (slice_get all k)) places → IsChainOf all a b steps
chain_of all a b i j s u places steps chain at_s shows_s at_u shows_u told = record {
  places = places;
  from = i;
  to = j;
  chain = chain;
  begins = λ d. subst (λ (x : Shape). Shows (port a) x) (sym (get_or_from_slice_get all i s d at_s)) shows_s;
  ends = λ d. subst (λ (x : Shape). Shows (port b) x) (sym (get_or_from_slice_get all j u d at_u)) shows_u;
  told = told;
}

-- ---- a line more

pub drawn_next : (items : List Item) (l : Library) (k : ℕ) (one : Item) (base before after : List Shape) → Stands items k one
    → before ≡ base ++ all_instances_show l (instances_of (take k items)) → after ≡ before ++ all_instances_show l (instances_of (one ∷ []))
    → after ≡ base ++ all_instances_show l (instances_of (take (k + 1) items))
drawn_next items l k one base before after at so_far made =
    made
    ∙ ap (λ (xs : List Shape). xs ++ all_instances_show l (instances_of (one ∷ []))) so_far
    ∙ append_assoc base (all_instances_show l (instances_of (take k items))) (all_instances_show l (instances_of (one ∷ [])))
    ∙ ap (λ (xs : List Shape). base ++ xs)
    (sym (show_append l (instances_of (take k items)) (instances_of (one ∷ []))) ∙ ap (all_instances_show l) (sym (placed_next items k one at)))

pub gives_next : (items : List Item) (l : Library) (k : ℕ) (one : Item) (base before after : List Bool) → Stands items k one
    → before ≡ base ++ all_instances_give l (instances_of (take k items)) → after ≡ before ++ all_instances_give l (instances_of (one ∷ []))
    → after ≡ base ++ all_instances_give l (instances_of (take (k + 1) items))
gives_next items l k one base before after at so_far made =
    made
    ∙ ap (λ (xs : List Bool). xs ++ all_instances_give l (instances_of (one ∷ []))) so_far
    ∙ append_assoc base (all_instances_give l (instances_of (take k items))) (all_instances_give l (instances_of (one ∷ [])))
    ∙ ap (λ (xs : List Bool). base ++ xs)
    (sym (give_append l (instances_of (take k items)) (instances_of (one ∷ []))) ∙ ap (all_instances_give l) (sym (placed_next items k one at)))

pub known_next : (items : List Item) (l : Library) (k : ℕ) (one : Item) → Stands items k one → AreKnown (instances_of (take k items)) l → AreKnown (instances_of (one ∷ [])) l
    → AreKnown (instances_of (take (k + 1) items)) l
known_next items l k one at before own i h =
    elim (In-split i (instances_of (take k items)) (instances_of (one ∷ [])) (subst (λ (is : List Placed). In i is) (placed_next items k one at) h)) [
      | inl a ↦ before i a
      | inr b ↦ own i b
    ]

-- the first instance of the rest that isn't known is the first of all
pub unknown_later : (items : List Item) (l : Library) (k : ℕ) (one : Item) (model : List ℕ) → Stands items k one → AreKnown (instances_of (take k items)) l
    → IsFirstUnknown (instances_of (one ∷ [])) l model → IsFirstUnknown (instances_of items) l model
unknown_later items l k one model at before h =
    let r = split_at items k one at in
    let parts : instances_of items ≡ instances_of (take k items) ++ (instances_of (one ∷ []) ++ instances_of r.0) =
    ap instances_of r.1 ∙ instances_append (take k items) (one ∷ r.0)
    ∙ ap (λ (is : List Placed). instances_of (take k items) ++ is) (instances_append (one ∷ []) r.0) in
    record {
      before = instances_of (take k items) ++ h.before;
      instance = h.instance;
      behind = h.behind ++ instances_of r.0;
      all_are =
          parts
          ∙ ap (λ (is : List Placed). instances_of (take k items) ++ (is ++ instances_of r.0)) h.all_are
          ∙ ap (λ (is : List Placed). instances_of (take k items) ++ is) (append_assoc h.before (h.instance ∷ h.behind) (instances_of r.0))
          ∙ sym (append_assoc (instances_of (take k items)) h.before (h.instance ∷ (h.behind ++ instances_of r.0)));
      known = λ i j. elim (In-split i (instances_of (take k items)) h.before j) [ inl a ↦ before i a | inr b ↦ h.known i b ];
      unknown = h.unknown;
      model_is = h.model_is;
    }

-- ---- one line

-- what a single instance shows
pub shows_one : (l : Library) (i : Placed) (c : Cell) → cell_of l i.model ≡ Some c → instance_shapes (Some c) i ≡ all_instances_show l (i ∷ [])
shows_one l i c known = ap (λ (o : Option Cell). instance_shapes o i) (sym known) ∙ sym (append-nil (instance_shapes (cell_of l i.model) i))

pub gives_one : (l : Library) (i : Placed) (c : Cell) → cell_of l i.model ≡ Some c → instance_gives (Some c) ≡ all_instances_give l (i ∷ [])
gives_one l i c known = ap (λ (o : Option Cell). instance_gives o) (sym known) ∙ sym (append-nil (instance_gives (cell_of l i.model)))

pub known_one : (l : Library) (i : Placed) (c : Cell) → cell_of l i.model ≡ Some c → AreKnown (i ∷ []) l
known_one l i c e j here = (c, e)
known_one l i c e j (there h) = elim h [ ]

pub unknown_one : (l : Library) (i : Placed) → cell_of l i.model ≡ None → IsFirstUnknown (i ∷ []) l i.model
unknown_one l i e = record { before = []; instance = i; behind = []; all_are = refl; known = λ j h. elim h [ ]; unknown = e; model_is = refl }

-- the instances on a line lie where those of the figure do
pub placed_line : (items : List Item) (k : ℕ) (one : Item) → Stands items k one → ((i : Placed) → In i (instances_of items) → IsCoordinate i.x × IsCoordinate i.y)
    → (i : Placed) → In i (instances_of (one ∷ [])) → IsCoordinate i.x × IsCoordinate i.y
placed_line items k one at near i h =
    let r = split_at items k one at in
    let parts : instances_of items ≡ instances_of (take k items) ++ (instances_of (one ∷ []) ++ instances_of r.0) =
    ap instances_of r.1 ∙ instances_append (take k items) (one ∷ r.0)
    ∙ ap (λ (is : List Placed). instances_of (take k items) ++ is) (instances_append (one ∷ []) r.0) in
    near i
    (subst (λ (is : List Placed). In i is) (sym parts)
    (In-right i (instances_of (take k items)) (instances_of (one ∷ []) ++ instances_of r.0) (In-left i (instances_of (one ∷ [])) (instances_of r.0) h)))

pub refused_line : (items : List Item) (l : Library) (k : ℕ) (one : Item) (e : ExtractError) → Stands items k one → AreKnown (instances_of (take k items)) l
    → IsUnknownRefusal (instances_of (one ∷ [])) l e → IsUnknownRefusal (instances_of items) l e
refused_line items l k one errors.Memory at known h = tt
refused_line items l k one (errors.UnknownCell model) at known h = unknown_later items l k one model at known h
refused_line items l k one (errors.Limit limit) at known h = absurd h
refused_line items l k one (errors.Shorted a b chain) at known h = absurd h
