use Rattle.evp_report.proofs.words.put_reason.Goals as goal

pub returns-in-Overflow : goal.returns-in-Overflow
returns-in-Overflow g c = rw c.in-Overflow.is c.put_place.ensures

pub returns-in-ZeroDivide : goal.returns-in-ZeroDivide
returns-in-ZeroDivide g c = rw c.in-ZeroDivide.is c.put_place-in-ZeroDivide.ensures

pub returns-in-Index : goal.returns-in-Index
returns-in-Index g c = rw c.in-Index.is c.put_place-in-Index.ensures
