-- Links that are joined one by one.
use Rattle.std.proofs.Common.{◌≡◌, ℕ, ◌+◌, ◌<◌, List, [], ◌∷◌, ◌++◌, map, length, take, get_or, Option, None, Some, refl, sym, ap, subst, ◌∙◌, append_assoc}
use Rattle.std.specs.List.{All}
use Rattle.std.proofs.lemmas.List.{take_more, get_or_read}
use Rattle.std.proofs.lemmas.Option.{slice_get_within, slice_get_read}
use Rattle.vlsi_base.specs.declared.name.Name.{Name}
use Rattle.vlsi_base.specs.declared.name.Terminal.{Terminal}
use Rattle.vlsi_base.specs.Member.{In}
use Rattle.vlsi_base.specs.NamePlaces.{last_place}
use Rattle.machine_core.proofs.Values.{In-map}
use Rattle.net_core.specs.declared.error.BuildError.{BuildError}
use Rattle.net_core.specs.declared.error.BuildError.TheVariants as building
use Rattle.net_core.specs.Places.{Stands, IsThere}
use Rattle.net_core.specs.Joins.{Draft, draft_terminals, with_join, IsNoJoin}
use Rattle.vst_io.specs.Drafts.{end_at, last_end}
use Rattle.vst_io.proofs.Fine.{map_append}
use Rattle.vst_io.proofs.Places.{IsLast, last_is, last_there, stands_in, stands_map}
use Rattle.vst_io.proofs.Classes.{Links}

abbrev pub bit_of : Terminal × Name → Name
bit_of l = l.1

abbrev pub pair_at : Links → Terminal × Name → Terminal × Terminal
pair_at links l = (last_end links l.1 l.0, l.0)

-- what a draft has become by the first k links
abbrev pub joined_to : Draft → Links → ℕ → Draft
joined_to d links k = record d { joins = d.joins ++ map (pair_at links) (take k links) }

-- where a link's bit stands last
pub record IsLastLink (links : Links) (l : Terminal × Name) (place : ℕ) : Type 0 where
  pub within : place < length links
  pub is : (x : Terminal × Name) → x ≡ get_or links place x → (other : Terminal) → last_end links l.1 other ≡ x.0

pub last_link : (links : Links) (l : Terminal × Name) (place : ℕ) → last_place (map (λ l. l.1) links) l.1 ≡ Some place → IsLastLink links l place
last_link links l place e =
    let s : Stands (map bit_of links) place l.1 = subst (λ (o : Option ℕ). IsLast (map bit_of links) l.1 o) e (last_is (map bit_of links) l.1) in
    let r = stands_map bit_of links place l.1 s in
    let low : place < length links = slice_get_within links place r.0 r.1 in
    record {
      within = low;
      is = λ x at other. ap (end_at links l.1 other) e ∙ ap (λ (m : Terminal × Name). m.0) (sym (get_or_read links place x low at (other, l.1)));
    }

link_in : (links : Links) (k : ℕ) (l : Terminal × Name) → k < length links → l ≡ get_or links k l → In l links
link_in links k l low at = stands_in links k l (slice_get_read links (length links) k l refl low at)

-- a link's bit stands somewhere
pub link_found : (links : Links) (k : ℕ) (l : Terminal × Name) → k < length links → l ≡ get_or links k l → last_place (map (λ l. l.1) links) l.1 ≡ None → ⊥
link_found links k l low at e =
    let r = last_there (map bit_of links) l.1 (In-map bit_of l links (link_in links k l low at)) in
    let both : Some r.0 ≡ None = sym r.1 ∙ e in
    absurd cc

pub joined_next : (d now after : Draft) (links : Links) (k place : ℕ) (l x : Terminal × Name) → k < length links → l ≡ get_or links k l → last_place (map (λ l. l.1) links) l.1 ≡ Some place → x ≡ get_or links place x
    → now ≡ joined_to d links k → after ≡ with_join now x.0 l.0 → after ≡ joined_to d links (k + 1)
joined_next d now after links k place l x low at found there so_far made =
    let last : x.0 ≡ last_end links l.1 l.0 = sym ((last_link links l place found).is x there l.0) in
    let more : map (pair_at links) (take (k + 1) links) ≡ map (pair_at links) (take k links) ++ pair_at links l ∷ [] =
    ap (λ (ls : Links). map (pair_at links) ls) (take_more links k l low ∙ ap (λ (m : Terminal × Name). take k links ++ m ∷ []) (sym at)) ∙ map_append (pair_at links) (take k links) (l ∷ []) in
    let all : (d.joins ++ map (pair_at links) (take k links)) ++ pair_at links l ∷ [] ≡ d.joins ++ map (pair_at links) (take (k + 1) links) =
    append_assoc d.joins (map (pair_at links) (take k links)) (pair_at links l ∷ []) ∙ ap (λ (js : List (Terminal × Terminal)). d.joins ++ js) (sym more) in
    made ∙ ap (λ (t : Terminal). with_join now t l.0) last ∙ ap (λ (y : Draft). with_join y (last_end links l.1 l.0) l.0) so_far ∙ ap (λ (js : List (Terminal × Terminal)). let y : Draft = record d { joins = js } in y) all

there_at : (P : Terminal × Name → Type 0) (links : Links) → All P links → (k : ℕ) (l : Terminal × Name) → k < length links → l ≡ get_or links k l → P l
there_at P links all k l low at = subst P (sym at) (all k l low)

-- both ends of a link are there, so that memory alone can lack
pub only_memory : (d now : Draft) (links : Links) (k place : ℕ) (l x : Terminal × Name) → All (λ l. IsThere (draft_terminals d) l.0) links → k < length links → l ≡ get_or links k l
    → last_place (map (λ l. l.1) links) l.1 ≡ Some place → x ≡ get_or links place x → now ≡ joined_to d links k → (e : BuildError) → IsNoJoin now x.0 l.0 e → e ≡ building.Memory
only_memory d now links k place l x all low at found there so_far building.Memory why = refl
only_memory d now links k place l x all low at found there so_far building.Twice why = absurd why
only_memory d now links k place l x all low at found there so_far building.Unknown why =
    let P : Terminal × Name → Type 0 = λ m. IsThere (draft_terminals d) m.0 in
    let none : IsNoJoin d x.0 l.0 building.Unknown = subst (λ (y : Draft). IsNoJoin y x.0 l.0 building.Unknown) so_far why in
    absurd (none (there_at P links all place x (last_link links l place found).within there) (there_at P links all k l low at))

pub none_is : (o : Option ℕ) → ((k : ℕ) → o ≡ Some k → ⊥) → o ≡ None
none_is None h = refl
none_is (Some k) h = absurd (h k refl)
