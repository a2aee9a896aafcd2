-- Lists of the same members, whose names are different, are one list in the order of the names.
use Rattle.std.proofs.Common.{◌≡◌, List}
use Rattle.jp_canon.proofs.ByName.{IsIn, AreNamed, by_name_in, in_by_name, by_name_ascending, same_ascending}
use Rattle.jp_canon.specs.Canonical.{Member, by_name}

pub same_by_name : (xs ys : List Member) → AreNamed xs → AreNamed ys → ((x : Member) → IsIn x xs → IsIn x ys) → ((y : Member) → IsIn y ys → IsIn y xs) → by_name xs ≡ by_name ys
same_by_name xs ys a b f g =
    same_ascending (by_name xs) (by_name ys) (by_name_ascending xs a) (by_name_ascending ys b) (λ x i. in_by_name x ys (f x (by_name_in x xs i))) (λ y i. in_by_name y xs (g y (by_name_in y ys i)))
