-- In each object that was read the keys rise.
use Rattle.std.proofs.Common.{◌≡◌, ℕ, List, Option, Some, None, option_map, option_and_then, refl, ap, ◌∙◌, subst}
use Rattle.std.specs.declared.cmp.Ordering.{Ordering}
use Rattle.std.specs.declared.cmp.Ordering.TheVariants.{Less, Equal, Greater}
use Rattle.std.specs.Ordering.{match_ordering, ordering_reverse}
use Rattle.std.specs.Cmp.Lexicographic.{nat_list_cmp_total}
use Rattle.json.specs.Token.{Token}
use Rattle.json.specs.Lex.{tokens}
use Rattle.json.specs.Json as json
use Rattle.label_set.specs.Bytes.{bytes_cmp}
use Rattle.serde_json.specs.Data.{Data, null, boolean, number, string, array, object, Items, no_items, item, Members, no_members, member, put}
use Rattle.serde_json.specs.Find.{get_member, get, as_array, as_object}
use Rattle.serde_json.specs.Read.{number_of, of_json, of_items, of_members, max_depth, read}

-- a key is below all those of some fields
abbrev pub IsFront : List ℕ → Members → Type 0
IsFront key no_members = Unit {0}
IsFront key (member l d ms) = (bytes_cmp key l ≡ Less) × IsFront key ms

-- the keys rise, and those of all objects inside
abbrev mutual
  pub IsOrdered : Data → Type 0
  IsOrdered null = Unit {0}
  IsOrdered (boolean b) = Unit {0}
  IsOrdered (number n) = Unit {0}
  IsOrdered (string s) = Unit {0}
  IsOrdered (array ds) = AreOrdered ds
  IsOrdered (object ms) = Rises ms

  pub AreOrdered : Items → Type 0
  AreOrdered no_items = Unit {0}
  AreOrdered (item d ds) = IsOrdered d × AreOrdered ds

  pub Rises : Members → Type 0
  Rises no_members = Unit {0}
  Rises (member key d ms) = IsOrdered d × IsFront key ms × Rises ms

front_later : (k l : List ℕ) (ms : Members) → bytes_cmp k l ≡ Less → IsFront l ms → IsFront k ms
front_later k l no_members e h = tt
front_later k l (member m d ms) e h = (nat_list_cmp_total.trans k l m e h.0, front_later k l ms e h.1)

-- a key put among others stays behind what is in front of it and of them
front_by : (l k m : List ℕ) (d e : Data) (ms : Members) (o : Ordering) → bytes_cmp l k ≡ Less → bytes_cmp l m ≡ Less → IsFront l ms → IsFront l (put k d ms) →
    IsFront l (match_ordering o (member k d (member m e ms)) (member m d ms) (member m e (put k d ms)))
front_by l k m d e ms Less a b h more = (a, (b, h))
front_by l k m d e ms Equal a b h more = (b, h)
front_by l k m d e ms Greater a b h more = (b, more)

front_put : (l k : List ℕ) (d : Data) (ms : Members) → bytes_cmp l k ≡ Less → IsFront l ms → IsFront l (put k d ms)
front_put l k d no_members a h = (a, tt)
front_put l k d (member m e ms) a h = front_by l k m d e ms (bytes_cmp k m) a h.0 h.1 (front_put l k d ms a h.1)

below_from : (l k : List ℕ) → bytes_cmp k l ≡ Greater → bytes_cmp l k ≡ Less
below_from l k e = nat_list_cmp_total.antisymm l k ∙ ap ordering_reverse e

put_by : (k l : List ℕ) (d e : Data) (ms : Members) (o : Ordering) → bytes_cmp k l ≡ o → IsOrdered d → Rises (member l e ms) → Rises (put k d ms) →
    Rises (match_ordering o (member k d (member l e ms)) (member l d ms) (member l e (put k d ms)))
put_by k l d e ms Less c inside h more = (inside, (c, front_later k l ms c h.1), h)
put_by k l d e ms Equal c inside h more = (inside, h.1, h.2)
put_by k l d e ms Greater c inside h more = (h.0, front_put l k d ms (below_from l k c) h.1, more)

rises_put : (k : List ℕ) (d : Data) (ms : Members) → IsOrdered d → Rises ms → Rises (put k d ms)
rises_put k d no_members inside h = (inside, tt, tt)
rises_put k d (member l e ms) inside h = put_by k l d e ms (bytes_cmp k l) refl inside h (rises_put k d ms inside h.2)

-- something holds of a value, where there is one
abbrev OfSome : {A : Type 0} → (A → Type 0) → Option A → Type 0
OfSome P None = Unit {0}
OfSome P (Some a) = P a

of_map : {A B : Type 0} (P : A → Type 0) (Q : B → Type 0) (f : A → B) → ((a : A) → P a → Q (f a)) → (o : Option A) → OfSome P o → OfSome Q (option_map f o)
of_map P Q f k None h = tt
of_map P Q f k (Some a) h = k a h

of_then : {A B : Type 0} (P : A → Type 0) (Q : B → Type 0) (f : A → Option B) → ((a : A) → P a → OfSome Q (f a)) → (o : Option A) → OfSome P o → OfSome Q (option_and_then f o)
of_then P Q f k None h = tt
of_then P Q f k (Some a) h = k a h

of_any : {A : Type 0} (o : Option A) → OfSome (λ _. Unit {0}) o
of_any None = tt
of_any (Some a) = tt

mutual
  json_ordered : (j : json.Json) → OfSome IsOrdered (of_json j)
  json_ordered json.null = tt
  json_ordered (json.boolean b) = tt
  json_ordered (json.number s) = of_map (λ _. Unit {0}) IsOrdered number (λ n h. tt) (number_of s) (of_any (number_of s))
  json_ordered (json.string s) = tt
  json_ordered (json.array js) = of_map AreOrdered IsOrdered array (λ ds h. h) (of_items js) (items_ordered js)
  json_ordered (json.object ms) = of_map Rises IsOrdered object (λ fs h. h) (of_members ms no_members) (members_ordered ms no_members tt)

  items_ordered : (js : json.Items) → OfSome AreOrdered (of_items js)
  items_ordered json.no_items = tt
  items_ordered (json.item j js) =
      of_then IsOrdered AreOrdered _ (λ d h. of_map AreOrdered AreOrdered (item d) (λ ds k. (h, k)) (of_items js) (items_ordered js)) (of_json j) (json_ordered j)

  members_ordered : (ms : json.Members) (found : Members) → Rises found → OfSome Rises (of_members ms found)
  members_ordered json.no_members found h = h
  members_ordered (json.member name j ms) found h =
      of_then IsOrdered Rises _ (λ d k. members_ordered ms (put name d found) (rises_put name d found k h)) (of_json j) (json_ordered j)

any_ordered : (o : Option json.Json) → OfSome IsOrdered (option_and_then of_json o)
any_ordered o = of_then (λ _. Unit {0}) IsOrdered of_json (λ j h. json_ordered j) o (of_any o)

pub read_ordered : (text : List ℕ) (d : Data) → read text ≡ Some d → IsOrdered d
read_ordered text d e =
    subst (OfSome IsOrdered) e (any_ordered (option_and_then (λ (p : json.Json × List Token). json.if_last p.0 p.1) (json.value max_depth (tokens text))))

-- the objects of a list, and of a field
pub array_ordered : (d : Data) (ds : Items) → as_array d ≡ Some ds → IsOrdered d → AreOrdered ds
array_ordered null ds e h = absurd cc
array_ordered (boolean b) ds e h = absurd cc
array_ordered (number n) ds e h = absurd cc
array_ordered (string s) ds e h = absurd cc
array_ordered (array cs) ds e h = subst (OfSome AreOrdered) e h
array_ordered (object ms) ds e h = absurd cc

pub object_ordered : (d : Data) (ms : Members) → as_object d ≡ Some ms → IsOrdered d → Rises ms
object_ordered null ms e h = absurd cc
object_ordered (boolean b) ms e h = absurd cc
object_ordered (number n) ms e h = absurd cc
object_ordered (string s) ms e h = absurd cc
object_ordered (array ds) ms e h = absurd cc
object_ordered (object fs) ms e h = subst (OfSome Rises) e h

member_by : (key l : List ℕ) (e d : Data) (ms : Members) (o : Ordering) → IsOrdered e → (get_member key ms ≡ Some d → IsOrdered d) →
    match_ordering o (get_member key ms) (Some e) (get_member key ms) ≡ Some d → IsOrdered d
member_by key l e d ms Less h later is = later is
member_by key l e d ms Equal h later is = subst (OfSome IsOrdered) is h
member_by key l e d ms Greater h later is = later is

member_ordered : (key : List ℕ) (d : Data) (ms : Members) → Rises ms → get_member key ms ≡ Some d → IsOrdered d
member_ordered key d no_members h is = absurd cc
member_ordered key d (member l e ms) h is = member_by key l e d ms (bytes_cmp key l) h.0 (member_ordered key d ms h.2) is

pub field_ordered : (key : List ℕ) (d e : Data) → get key d ≡ Some e → IsOrdered d → IsOrdered e
field_ordered key null e is h = absurd cc
field_ordered key (boolean b) e is h = absurd cc
field_ordered key (number n) e is h = absurd cc
field_ordered key (string s) e is h = absurd cc
field_ordered key (array ds) e is h = absurd cc
field_ordered key (object ms) e is h = member_ordered key e ms h is
