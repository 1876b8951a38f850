-- Lines, refusals and what is shown, computed on small values by hand.
use Rattle.std.proofs.Common.{◌≡◌, [], ◌∷◌, ◌++◌, codes, pos, Some, None, refl}
use Rattle.std.specs.Fmt.{digits}
use Rattle.hex.specs.Hex.{encode_with}
use Rattle.evp_base.specs.declared.kind.Kind.TheVariants.{Int}
use Rattle.evp_base.specs.declared.order.Order.TheVariants.{Little}
use Rattle.evp_base.specs.declared.step.Step.TheVariants.{Field, Index}
use Rattle.evp_file.specs.declared.fault.FileFault.TheVariants.{Trailing}
use Rattle.evp_file.specs.declared.file.FileItem.{FileItem}
use Rattle.evp_file.specs.declared.file.KnownFormat.{KnownFormat}
use Rattle.evp_file.specs.File.{item_of}
use Rattle.evp_format.specs.declared.field.Base.TheVariants.{Number}
use Rattle.evp_format.specs.declared.field.Shape.TheVariants.{One, Counted}
use Rattle.evp_job.specs.declared.fault.JobFault.TheVariants.{Limit}
use Rattle.evp_stones.specs.declared.refusal.Refusal.TheVariants.{Data, Job}
use Rattle.evp_stones.specs.Refusals.{refusal_line}
use Rattle.evp_stones.specs.Show.{shown}
use Rattle.evp_stones.specs.Words.{line_of, show, check}

line_show : line_of (codes "show" ∷ codes "a" ∷ []) ≡ Some (show (codes "a"))
line_show = refl

line_check : line_of (codes "check" ∷ codes "j" ∷ []) ≡ Some (check (codes "j"))
line_check = refl

line_short : line_of (codes "show" ∷ []) ≡ None
line_short = refl

line_long : line_of (codes "show" ∷ codes "a" ∷ codes "a" ∷ []) ≡ None
line_long = refl

data_line : refusal_line (Data (codes "a.ndr") (Trailing 55)) ≡ codes "stones: data \"a.ndr\" at 55 trailing\n"
unfolding digits
data_line = refl

job_line : refusal_line (Job (Limit (Field (codes "rounds") ∷ Index 2 ∷ []) 70)) ≡ codes "stones: job limit at rounds[2]: 70\n"
unfolding digits
job_line = refl

-- a list x of numbers that n counts, and the first two bytes of an identifier
counted : KnownFormat
counted = record {
  format = record {
    order = Little;
    pointer = 4;
    types = record {
      name = codes "p";
      length = 8;
      fields =
          record { name = codes "x"; base = Number Int; shape = Counted 1; size = 2; offset = 0; fallback = pos 0 }
          ∷ record { name = codes "n"; base = Number Int; shape = One; size = 4; offset = 4; fallback = pos 0 } ∷ [];
    } ∷ [];
  };
  id = record { 0 = 170 ∷ 1 ∷ [] };
}

item : FileItem
item = item_of 0 (8 ∷ 0 ∷ 0 ∷ 0 ∷ 2 ∷ 0 ∷ 0 ∷ 0 ∷ 5 ∷ 0 ∷ 255 ∷ 255 ∷ [])

shown_list : shown (counted ∷ []) (item ∷ [])
    ≡ codes "format 0 little pointer 4 aa01\ntype p length 8\nfield x integer[n] size 2 offset 0\n"
    ++ codes "field n integer size 4 offset 4\n#0 format 0 {x=[5,-1],n=2}\n"
unfolding counted item digits encode_with
shown_list = refl
