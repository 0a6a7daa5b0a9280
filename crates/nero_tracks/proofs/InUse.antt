-- The models that instances have, and the columns of their cells.
use Rattle.std.proofs.Common.{◌≡◌, ℕ, ◌+◌, ◌<◌, Bool, true, false, List, [], map, length, get_or, Some, below_more, sym, ap, subst, ◌∙◌, arith}
use Rattle.std.specs.List.{All}
use Rattle.std.proofs.lemmas.List.{get_or_read}
use Rattle.std.proofs.lemmas.Option.{same_Some, slice_get_within, slice_get-get_or, get_or_from_slice_get}
use Rattle.cell_model.specs.Cell.{Cell}
use Rattle.cell_model.specs.Library.{Library, cell_of}
use Rattle.cell_model.specs.Usable.{IsMappable}
use Rattle.cell_model.proofs.Mapped.{usable_is_mappable}
use Rattle.cell_model.proofs.Members.{In-map, In-map_back}
use Rattle.cell_checks.specs.Checks.{ColumnsDiffer}
use Rattle.cell_pins.proofs.Sound.{member_at}
use Rattle.net_core.specs.declared.frame.Node.{Node}
use Rattle.net_core.specs.Frame.{instance_of}
use Rattle.net_core.specs.Netlist.{Instance, Netlist as InMemory}
use Rattle.net_core.specs.Places.{Stands, IsThere}
use Rattle.net_core.proofs.Frames.{unmapped}
use Rattle.net_right.proofs.Lists.{in_place}
use Rattle.nero_tracks.specs.declared.error.TrackError.{TrackError}
use Rattle.nero_tracks.specs.declared.error.TrackError.TheVariants as error
use Rattle.nero_tracks.specs.Columns.{IsModelRefusal, HasOwnColumns, HaveOwnColumns}
use Rattle.nero_tracks.specs.Drawable.{IsDrawableIn, IsTrackRefusal}
use Rattle.nero_tracks.specs.Tracks.{AreMarks}
use Rattle.nero_tracks.proofs.Among.{among_in, in_among}

abbrev model_of : Node → ℕ
model_of i = i.model

-- the cells of the first k models that are marked have columns of their own
abbrev pub OwnBelow : Library → List (List ℕ) → List Bool → ℕ → Type 0
OwnBelow l models marks k = (j : ℕ) → j < k → get_or marks j false ≡ true → HasOwnColumns l (get_or models j [])

pub own_marked : (l : Library) (models : List (List ℕ)) (marks : List Bool) (k : ℕ) (model : List ℕ) → OwnBelow l models marks k → k < length models → model ≡ get_or models k model
    → HasOwnColumns l model → OwnBelow l models marks (k + 1)
own_marked l models marks k model below low at own =
    below_more (λ j. get_or marks j false ≡ true → HasOwnColumns l (get_or models j [])) k below
    (λ marked. subst (HasOwnColumns l) (get_or_read models k model low at []) own)

pub own_unmarked : (l : Library) (models : List (List ℕ)) (marks : List Bool) (k : ℕ) (mark : Bool) → OwnBelow l models marks k → k < length marks → mark ≡ get_or marks k mark → mark ≡ false
    → OwnBelow l models marks (k + 1)
own_unmarked l models marks k mark below low at unmarked =
    below_more (λ j. get_or marks j false ≡ true → HasOwnColumns l (get_or models j [])) k below
    (λ marked. absurd (let never : false ≡ true = sym unmarked ∙ get_or_read marks k mark low at false ∙ marked in cc never))

module _ (l : Library) (n : InMemory) (models : List (List ℕ)) (nodes : List Node) (marks : List Bool) (same : models ≡ n.models)
    (seen : map (instance_of n.models) nodes ≡ n.instances) (are : AreMarks (map model_of nodes) (length models) marks) where
  -- the model of an instance is marked
  pub record IsMarked (model : List ℕ) : Type 0 where
    pub place : ℕ
    pub low : place < length models
    pub marked : get_or marks place false ≡ true
    pub named : get_or models place [] ≡ model

  marked_one : All (λ i. i.model < length n.models) nodes → (i : Instance) → IsThere n.instances i → IsMarked i.model
  marked_one known i is_there =
      let u = unmapped (instance_of n.models) nodes is_there.0 i (subst (λ (xs : List Instance). Stands xs is_there.0 i) (sym seen) is_there.1) in
      let at : get_or nodes is_there.0 u.0 ≡ u.0 = get_or_from_slice_get nodes is_there.0 u.0 u.0 u.1 in
      let inside : u.0.model < length n.models = subst (λ (x : Node). x.model < length n.models) at (known is_there.0 u.0 (slice_get_within nodes is_there.0 u.0 u.1)) in
      let low : u.0.model < length models = subst (λ (ms : List (List ℕ)). u.0.model < length ms) (sym same) inside in
      record {
        place = u.0.model;
        low = low;
        marked = are.each u.0.model false low ∙ in_among (map model_of nodes) u.0.model (In-map model_of u.0 nodes (member_at nodes is_there.0 u.0 u.1));
        named = ap (λ (ms : List (List ℕ)). get_or ms u.0.model []) same ∙ ap (λ (x : Instance). x.model) u.2;
      }

  -- where those of all marked models below a place have columns of their own, those of all instances with these models have
  own_below : IsDrawableIn l n → (k : ℕ) → OwnBelow l models marks k → (i : Instance) (m : IsMarked i.model) (c : Cell) → IsThere n.instances i → m.place < k → cell_of l i.model ≡ Some c → ColumnsDiffer c
  own_below given k own i m c is_there less found =
      let right = given.usable i is_there in
      let one : right.0 ≡ c = same_Some right.0 c (sym right.1 ∙ found) in
      own m.place less m.marked c (subst (λ (model : List ℕ). cell_of l model ≡ Some c) (sym m.named) found) (subst IsMappable one (usable_is_mappable right.0 right.2))

  pub all_own : IsDrawableIn l n → All (λ i. i.model < length n.models) nodes → OwnBelow l models marks (length models) → HaveOwnColumns l n
  all_own given known own i c is_there found = let m = marked_one known i is_there in own_below given (length models) own i m c is_there m.low found

  -- a marked model that is refused is that of an instance
  pub refused : IsDrawableIn l n → All (λ i. i.model < length n.models) nodes → (k : ℕ) (mark : Bool) (model : List ℕ) (e : TrackError) → OwnBelow l models marks k → k < length models
      → mark ≡ get_or marks k mark → mark ≡ true → model ≡ get_or models k model → IsModelRefusal l model e → IsTrackRefusal l n e
  refused given known k mark model error.Memory own low read marked at h = tt
  refused given known k mark model (error.NoColumn cell pin) own low read marked at h =
      let among = among_in (map model_of nodes) k (sym (are.each k mark low) ∙ sym read ∙ marked) in
      let r = In-map_back model_of k nodes among in
      let user : Instance = instance_of n.models r.0 in
      let named : model ≡ user.model = get_or_read models k model low at [] ∙ ap (λ (ms : List (List ℕ)). get_or ms k []) same ∙ ap (λ (j : ℕ). get_or n.models j []) (sym r.2) in
      let under : k < length n.models = subst (λ (ms : List (List ℕ)). k < length ms) same low in
      record {
        user = user;
        listed = subst (λ (xs : List Instance). IsThere xs user) seen (in_place user (map (instance_of n.models) nodes) (In-map (instance_of n.models) r.0 nodes r.1));
        place = k;
        model = slice_get-get_or n.models k [] under ∙ ap (λ (j : ℕ). Some (get_or n.models j [])) (sym r.2);
        used = h.used;
        found = subst (λ (m : List ℕ). cell_of l m ≡ Some h.used) named h.found;
        named = h.named;
        shared = h.shared;
        first = λ other j c is_there stands less found.
            let m = marked_one known other is_there in
            let inside : m.place < length n.models = subst (λ (ms : List (List ℕ)). m.place < length ms) same m.low in
            let again : Stands n.models m.place other.model =
            slice_get-get_or n.models m.place [] inside ∙ ap Some (ap (λ (ms : List (List ℕ)). get_or ms m.place []) (sym same) ∙ m.named) in
            let one = given.sound.different m.place j other.model again stands in
            own_below given k own other m c is_there (omega (arith, one, less)) found;
      }
