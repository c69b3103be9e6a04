-- What a shelf that tells its files has of a name.
use Rattle.std.proofs.Common.{◌≡◌, ℕ, ◌<◌, ◌≤◌, List, length, sym, ◌∙◌, arith, subst, Option, None, Some}
use Rattle.std.specs.Prelude.{IsSomeAnd, IfSome}
use Rattle.outside.specs.declared.objects.StoredFile.{StoredFile}
use Rattle.outside.specs.Objects.{file_of}

pub some_same : {A : Type 0} (a b : A) → Some a ≡ Some b → a ≡ b
some_same a b e = cc

pub not_lacking : (files : Option (List StoredFile)) (name bytes : List ℕ) → IsSomeAnd files (λ fs. file_of name fs ≡ Some bytes) →
    IfSome files (λ fs. file_of name fs ≡ None) → ⊥
not_lacking None name bytes t h = t
not_lacking (Some fs) name bytes t h = absurd cc

longer_by : (o : Option (List ℕ)) (bytes : List ℕ) (limit : ℕ) → o ≡ Some bytes → IsSomeAnd o (λ b. limit < length b) → length bytes ≤ limit → ⊥
longer_by None bytes limit e h le = absurd cc
longer_by (Some b) bytes limit e h le =
    let at : limit < length bytes = subst (λ (x : List ℕ). limit < length x) (some_same b bytes e) h in
    absurd (omega (arith, at, le))

pub not_longer : (files : Option (List StoredFile)) (name bytes : List ℕ) (limit : ℕ) → IsSomeAnd files (λ fs. file_of name fs ≡ Some bytes) →
    IfSome files (λ fs. IsSomeAnd (file_of name fs) (λ b. limit < length b)) → length bytes ≤ limit → ⊥
not_longer None name bytes limit t h le = t
not_longer (Some fs) name bytes limit t h le = longer_by (file_of name fs) bytes limit t h le

pub same_file : (files : Option (List StoredFile)) (name bytes other : List ℕ) → IsSomeAnd files (λ fs. file_of name fs ≡ Some bytes) →
    IfSome files (λ fs. file_of name fs ≡ Some other) → other ≡ bytes
same_file None name bytes other t h = absurd t
same_file (Some fs) name bytes other t h = some_same other bytes (sym h ∙ t)

pub none_has : (files : Option (List StoredFile)) (name other : List ℕ) → IsSomeAnd files (λ fs. file_of name fs ≡ None) →
    IfSome files (λ fs. file_of name fs ≡ Some other) → ⊥
none_has None name other t h = t
none_has (Some fs) name other t h = absurd cc

longer_none : (o : Option (List ℕ)) (limit : ℕ) → o ≡ None → IsSomeAnd o (λ b. limit < length b) → ⊥
longer_none None limit e h = h
longer_none (Some b) limit e h = absurd cc

pub none_longer : (files : Option (List StoredFile)) (name : List ℕ) (limit : ℕ) → IsSomeAnd files (λ fs. file_of name fs ≡ None) →
    IfSome files (λ fs. IsSomeAnd (file_of name fs) (λ b. limit < length b)) → ⊥
none_longer None name limit t h = t
none_longer (Some fs) name limit t h = longer_none (file_of name fs) limit t h

pub longer_has : (files : Option (List StoredFile)) (name other : List ℕ) (limit : ℕ) → IsSomeAnd files (λ fs. IsSomeAnd (file_of name fs) (λ b. limit < length b)) →
    IfSome files (λ fs. file_of name fs ≡ Some other) → length other ≤ limit → ⊥
longer_has None name other limit t h le = t
longer_has (Some fs) name other limit t h le = longer_by (file_of name fs) other limit h t le

pub longer_lacks : (files : Option (List StoredFile)) (name : List ℕ) (limit : ℕ) → IsSomeAnd files (λ fs. IsSomeAnd (file_of name fs) (λ b. limit < length b)) →
    IfSome files (λ fs. file_of name fs ≡ None) → ⊥
longer_lacks None name limit t h = t
longer_lacks (Some fs) name limit t h = longer_none (file_of name fs) limit h t
