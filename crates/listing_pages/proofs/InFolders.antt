-- Folders and the names in them.
use Rattle.std.proofs.Common.{◌≡◌, ℕ, ◌+◌, ◌<◌, ◌≤◌, true, List, ◌++◌, Option, None, Some, length, take, drop, sym, ap, ◌∙◌, refl, arith}
use Rattle.std.specs.Prelude.{bytes_eq, option_map}
use Rattle.std.proofs.lemmas.List.{drop-take, take-append-le, length-drop, length-take, take-take}
use Rattle.std.proofs.lemmas.Slice.Eq.{bytes_eq-Decides}
use Rattle.name_rules.specs.Folder.{IsFolderEnd, StandsAt, begins_with, folder_end, folder_in}
use Rattle.name_rules.proofs.Folders.{ends_there}
use Rattle.listing_pages.specs.PageOf.{IsDelimiter, folder_of_name}

pub bytes_are : (a b : List ℕ) → bytes_eq a b ≡ true → a ≡ b
bytes_are a b is = (bytes_eq-Decides a b).0 is

pub bytes_same : (a : List ℕ) → bytes_eq a a ≡ true
bytes_same a = (bytes_eq-Decides a a).1 refl

some_of : (o : Option ℕ) (f : ℕ → List ℕ) (g : List ℕ) → option_map f o ≡ Some g → (e : ℕ) × (o ≡ Some e) × (f e ≡ g)
some_of None f g is = cc
some_of (Some e) f g is = (e, refl, cc)

-- what begins with the bytes has them in front
front_is : (f t : List ℕ) → begins_with f t ≡ true → take (length f) t ≡ f
front_is f t is = bytes_are (take (length f) t) f is

front_fits : (f t : List ℕ) → take (length f) t ≡ f → length f ≤ length t
front_fits f t is = omega (arith, ap length is, length-take (length f) t)

begins_by : (f t : List ℕ) → take (length f) t ≡ f → begins_with f t ≡ true
begins_by f t is = ap (λ l. bytes_eq l f) is ∙ bytes_same f

-- what begins the beginning begins the name
pub begins_through : (p f t : List ℕ) → begins_with p f ≡ true → begins_with f t ≡ true → begins_with p t ≡ true
begins_through p f t first second =
    let front = front_is p f first in
    let long = front_fits p f front in
    begins_by p t (sym (take-take (length p) (length f) t long) ∙ ap (take (length p)) (front_is f t second) ∙ front)

-- and the name with more after it
pub begins_more : (p t more : List ℕ) → begins_with p t ≡ true → begins_with p (t ++ more) ≡ true
begins_more p t more is =
    let front = front_is p t is in
    begins_by p (t ++ more) (take-append-le (length p) t more (front_fits p t front) ∙ front)

-- a folder of a name, with where its delimiter stands
pub record InFolder (prefix delimiter name folder : List ℕ) : Type 0 where
  pub end : ℕ
  pub is : IsFolderEnd name delimiter (length prefix) end
  pub front : take end name ≡ folder
  pub fits : end ≤ length name

module _ (prefix delimiter : List ℕ) (some : 0 < length delimiter) where
  pub in_folder_is : (name folder : List ℕ) → folder_in prefix delimiter name ≡ Some folder → InFolder prefix delimiter name folder
  in_folder_is name folder is =
      let found = some_of (folder_end delimiter (length prefix) (drop (length prefix) name)) (λ e. take e name) folder is in
      let end = (ends_there name delimiter (length prefix) found.0 some).0 found.1 in
      let stands = front_is delimiter (drop end.at name) end.stands in
      record {
        end = found.0;
        is = end;
        front = found.2;
        fits = omega (arith, some, end.end_is, front_fits delimiter (drop end.at name) stands, length-drop end.at name);
      }

  pub folder_len : (name folder : List ℕ) → (i : InFolder prefix delimiter name folder) → length folder ≡ i.end
  folder_len name folder i = omega (arith, ap length i.front, length-take i.end name, i.fits)

  -- the name begins with its folder
  pub begins_folder : (name folder : List ℕ) → folder_in prefix delimiter name ≡ Some folder → begins_with folder name ≡ true
  begins_folder name folder is = let i = in_folder_is name folder is in begins_by folder name (ap (λ n. take n name) (folder_len name folder i) ∙ i.front)

  pub folder_some : (name folder : List ℕ) → folder_in prefix delimiter name ≡ Some folder → 0 < length folder
  folder_some name folder is = let i = in_folder_is name folder is in omega (arith, some, folder_len name folder i, i.is.end_is)

  -- the folder begins with the prefix where the name does
  pub folder_begins : (name folder : List ℕ) → folder_in prefix delimiter name ≡ Some folder → begins_with prefix name ≡ true → begins_with prefix folder ≡ true
  folder_begins name folder is begins =
      let i = in_folder_is name folder is in
      begins_by prefix folder (ap (take (length prefix)) (sym i.front) ∙ take-take (length prefix) i.end name (omega (arith, i.is.from, i.is.end_is)) ∙ front_is prefix name begins)

  -- what stands in the common front of two names stands in both
  same_part : (a b : List ℕ) (e p : ℕ) → take e a ≡ take e b → p + length delimiter ≤ e → take (length delimiter) (drop p a) ≡ take (length delimiter) (drop p b)
  same_part a b e p same inside =
      sym (drop-take p (length delimiter) a)
      ∙ ap (drop p) (sym (take-take (p + length delimiter) e a inside) ∙ ap (take (p + length delimiter)) same ∙ take-take (p + length delimiter) e b inside)
      ∙ drop-take p (length delimiter) b

  stands_too : (a b : List ℕ) (e p : ℕ) → take e a ≡ take e b → p + length delimiter ≤ e → StandsAt delimiter a p → StandsAt delimiter b p
  stands_too a b e p same inside is = ap (λ l. bytes_eq l delimiter) (sym (same_part a b e p same inside)) ∙ is

  -- each name that begins with a folder is in it
  pub same_folder_too : (a b folder : List ℕ) → folder_in prefix delimiter a ≡ Some folder → begins_with folder b ≡ true → folder_in prefix delimiter b ≡ Some folder
  same_folder_too a b folder is begins =
      let i = in_folder_is a folder is in
      let long = folder_len a folder i in
      let front : take i.end b ≡ folder = ap (λ n. take n b) (sym long) ∙ front_is folder b begins in
      let same : take i.end a ≡ take i.end b = i.front ∙ sym front in
      let end : IsFolderEnd b delimiter (length prefix) i.end = record {
        at = i.is.at;
        end_is = i.is.end_is;
        from = i.is.from;
        stands = stands_too a b i.end i.is.at same (omega (arith, i.is.end_is)) i.is.stands;
        none = λ p from low stands. i.is.none p from low (stands_too b a i.end p (sym same) (omega (arith, low, i.is.end_is)) stands);
      } in
      ap (option_map (λ e. take e b)) ((ends_there b delimiter (length prefix) i.end some).1 end) ∙ ap Some front

-- ---- any way to give names their folders

-- of a name its folder, which begins it, and is that of all names which it begins
pub record AreFolders (prefix : List ℕ) (folder_by : List ℕ → Option (List ℕ)) : Type 0 where
  pub begins : (name folder : List ℕ) → folder_by name ≡ Some folder → begins_with folder name ≡ true
  pub some : (name folder : List ℕ) → folder_by name ≡ Some folder → 0 < length folder
  pub prefixed : (name folder : List ℕ) → folder_by name ≡ Some folder → begins_with prefix name ≡ true → begins_with prefix folder ≡ true
  pub shared : (a b folder : List ℕ) → folder_by a ≡ Some folder → begins_with folder b ≡ true → folder_by b ≡ Some folder

pub are_folders : (prefix : List ℕ) (delimiter : Option (List ℕ)) → IsDelimiter delimiter → AreFolders prefix (folder_of_name prefix delimiter)
are_folders prefix None given = record {
  begins = λ name folder is. absurd (none_is is);
  some = λ name folder is. absurd (none_is is);
  prefixed = λ name folder is begins. absurd (none_is is);
  shared = λ a b folder is begins. absurd (none_is is);
} where
  none_is : {folder : List ℕ} → None ≡ Some folder → ⊥
  none_is is = cc
are_folders prefix (Some delimiter) given = record {
  begins = begins_folder prefix delimiter given;
  some = folder_some prefix delimiter given;
  prefixed = folder_begins prefix delimiter given;
  shared = same_folder_too prefix delimiter given;
}
