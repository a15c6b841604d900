-- `device::class_of` meets its contract: each way through the match is a range of codes, and the rule gives all of them the class that is
-- answered there, which the checker computes.
use native.Mathlib.Omega.{arith}
use mathlib.Core.Path.{refl}
use Rattle.device.specs.Classes.{class_of}
use Rattle.device.proofs.Table.{all_have}
use Rattle.device.proofs.class_of.Goals as goal

pub returns-in-0 : goal.returns-in-0
returns-in-0 c = all_have class_of 0 1 1 c.args.code refl (omega arith) (omega arith)

pub returns-in-255 : goal.returns-in-255
returns-in-255 c = all_have class_of 255 1 21 c.args.code refl (omega arith) (omega arith)

pub returns-in-1-to-8 : goal.returns-in-1-to-8
returns-in-1-to-8 c = all_have class_of 1 8 2 c.args.code refl (omega arith) (omega arith)

pub returns-in-10-to-11 : goal.returns-in-10-to-11
returns-in-10-to-11 c = all_have class_of 10 2 3 c.args.code refl (omega arith) (omega arith)

pub returns-in-12-to-13 : goal.returns-in-12-to-13
returns-in-12-to-13 c = all_have class_of 12 2 4 c.args.code refl (omega arith) (omega arith)

pub returns-in-14-to-15 : goal.returns-in-14-to-15
returns-in-14-to-15 c = all_have class_of 14 2 5 c.args.code refl (omega arith) (omega arith)

pub returns-in-16-to-17 : goal.returns-in-16-to-17
returns-in-16-to-17 c = all_have class_of 16 2 6 c.args.code refl (omega arith) (omega arith)

pub returns-in-18-to-19 : goal.returns-in-18-to-19
returns-in-18-to-19 c = all_have class_of 18 2 7 c.args.code refl (omega arith) (omega arith)

pub returns-in-20-to-23 : goal.returns-in-20-to-23
returns-in-20-to-23 c = all_have class_of 20 4 8 c.args.code refl (omega arith) (omega arith)

pub returns-in-30-to-33 : goal.returns-in-30-to-33
returns-in-30-to-33 c = all_have class_of 30 4 9 c.args.code refl (omega arith) (omega arith)

pub returns-in-40-to-43 : goal.returns-in-40-to-43
returns-in-40-to-43 c = all_have class_of 40 4 10 c.args.code refl (omega arith) (omega arith)

pub returns-in-50-to-53 : goal.returns-in-50-to-53
returns-in-50-to-53 c = all_have class_of 50 4 11 c.args.code refl (omega arith) (omega arith)

pub returns-in-60-to-67 : goal.returns-in-60-to-67
returns-in-60-to-67 c = all_have class_of 60 8 12 c.args.code refl (omega arith) (omega arith)

pub returns-in-70-to-73 : goal.returns-in-70-to-73
returns-in-70-to-73 c = all_have class_of 70 4 13 c.args.code refl (omega arith) (omega arith)

pub returns-in-80-to-87 : goal.returns-in-80-to-87
returns-in-80-to-87 c = all_have class_of 80 8 14 c.args.code refl (omega arith) (omega arith)

pub returns-in-90-to-93 : goal.returns-in-90-to-93
returns-in-90-to-93 c = all_have class_of 90 4 15 c.args.code refl (omega arith) (omega arith)

pub returns-in-94-to-95 : goal.returns-in-94-to-95
returns-in-94-to-95 c = all_have class_of 94 2 16 c.args.code refl (omega arith) (omega arith)

pub returns-in-100-to-109 : goal.returns-in-100-to-109
returns-in-100-to-109 c = all_have class_of 100 10 17 c.args.code refl (omega arith) (omega arith)

pub returns-in-110-to-117 : goal.returns-in-110-to-117
returns-in-110-to-117 c = all_have class_of 110 8 18 c.args.code refl (omega arith) (omega arith)

pub returns-in-240-to-244 : goal.returns-in-240-to-244
returns-in-240-to-244 c = all_have class_of 240 5 19 c.args.code refl (omega arith) (omega arith)

pub returns-in-245-to-254 : goal.returns-in-245-to-254
returns-in-245-to-254 c = all_have class_of 245 10 20 c.args.code refl (omega arith) (omega arith)

pub returns-in_default : goal.returns-in_default
returns-in_default c = all_have class_of 9 1 0 c.args.code refl (omega arith) (omega arith)

pub returns-in_default-2 : goal.returns-in_default-2
returns-in_default-2 c = all_have class_of 24 6 0 c.args.code refl (omega arith) (omega arith)

pub returns-in_default-3 : goal.returns-in_default-3
returns-in_default-3 c = all_have class_of 34 6 0 c.args.code refl (omega arith) (omega arith)

pub returns-in_default-4 : goal.returns-in_default-4
returns-in_default-4 c = all_have class_of 44 6 0 c.args.code refl (omega arith) (omega arith)

pub returns-in_default-5 : goal.returns-in_default-5
returns-in_default-5 c = all_have class_of 54 6 0 c.args.code refl (omega arith) (omega arith)

pub returns-in_default-6 : goal.returns-in_default-6
returns-in_default-6 c = all_have class_of 68 2 0 c.args.code refl (omega arith) (omega arith)

pub returns-in_default-7 : goal.returns-in_default-7
returns-in_default-7 c = all_have class_of 74 6 0 c.args.code refl (omega arith) (omega arith)

pub returns-in_default-8 : goal.returns-in_default-8
returns-in_default-8 c = all_have class_of 88 2 0 c.args.code refl (omega arith) (omega arith)

pub returns-in_default-9 : goal.returns-in_default-9
returns-in_default-9 c = all_have class_of 96 4 0 c.args.code refl (omega arith) (omega arith)

pub returns-in_default-10 : goal.returns-in_default-10
returns-in_default-10 c = all_have class_of 118 122 0 c.args.code refl (omega arith) (omega arith)
